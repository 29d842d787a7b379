use Rattle.std.proofs.Common.{rules}
use Rattle.std.proofs.lemmas.Int.{ints}
use Rattle.cj_checker.proofs.bound.is_below.Goals.{then-point-from, else-point-from}
use Rattle.cj_checker.proofs.bound.is_below.Goals as goal

pub returns-then-point-from-2 : goal.returns-then-point-from-2
returns-then-point-from-2 c = elim c.if-point-from.branch [
  | then-point-from w ↦ search (rules, ints)
  | else-point-from w ↦ let fails = w.value-is in absurd cc
]
