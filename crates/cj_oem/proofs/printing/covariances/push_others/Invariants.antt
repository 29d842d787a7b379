use Rattle.std.proofs.Common.{◌≡◌, ◌∷◌, ◌++◌, map, take}
use Rattle.std.specs.Prelude.{flat_map}
use Rattle.cj_base.specs.Decimals.{number_of}
use Rattle.cj_kvn.specs.Decimals.{decimal_text_of}
use Rattle.cj_oem.proofs.printing.covariances.push_others.Given as goal

abbrev pub invariant-loop-other : goal.invariant-loop-other
invariant-loop-other l = l.text.items ≡ l.fn.text.items ++ flat_map (λ n. 32 ∷ decimal_text_of n) (map number_of (take l.other-index l.others))
