use Rattle.std.proofs.Common.{rules}
use Rattle.std.proofs.lemmas.Int.{ints}
use Rattle.cj_checker.proofs.bound.is_above.Goals.{then-from-point, else-from-point}
use Rattle.cj_checker.proofs.bound.is_above.Goals as goal

pub returns-then-from-point-2 : goal.returns-then-from-point-2
returns-then-from-point-2 c = elim c.if-from-point.branch [
  | then-from-point w ↦ search (rules, ints)
  | else-from-point w ↦ let fails = w.value-is in absurd cc
]
