use Rattle.std.proofs.Common.{◌≡◌, ◌∷◌, ◌++◌, take}
use Rattle.std.specs.Prelude.{flat_map}
use Rattle.cj_report.proofs.lines.push_line.Given as goal

abbrev pub invariant-loop-next : goal.invariant-loop-next
invariant-loop-next l = l.text.items ≡ (l.fn.text.items ++ l.word) ++ flat_map (λ w. 32 ∷ w.now) (take l.next-index l.more)
