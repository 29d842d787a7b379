use Rattle.std.proofs.Common.{◌≡◌, ◌++◌, take}
use Rattle.std.specs.Prelude.{flat_map}
use Rattle.cj_cert_text.specs.Texts.{primary_text}
use Rattle.cj_cert_text.proofs.printing.push_primaries.Given as goal

abbrev pub invariant-loop-object : goal.invariant-loop-object
invariant-loop-object l = l.text.items ≡ l.fn.text.items ++ flat_map primary_text (take l.object-index l.primaries)
