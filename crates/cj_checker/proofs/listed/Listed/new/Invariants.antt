use Rattle.std.proofs.Common.{◌≤◌, length}
use Rattle.cj_case.specs.Slots.{slot_count}
use Rattle.cj_checker.proofs.TableLemmas.{IsTableFrom}
use Rattle.cj_checker.proofs.listed.Listed.new.Given as goal

-- the table has the lines from the last one passed on
abbrev pub invariant-loop-number : goal.invariant-loop-number
invariant-loop-number l = record {
  within : l.number ≤ length l.boxes;
  table : IsTableFrom l.boxes (slot_count l.problem.window.first.micros l.problem.window.last.micros) (length l.problem.tracks) l.number l.numbers;
}

abbrev pub decreases-loop-number : goal.decreases-loop-number
decreases-loop-number l = l.number
