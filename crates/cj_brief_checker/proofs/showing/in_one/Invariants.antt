use Rattle.std.proofs.Common.{◌≡◌, ◌+◌, ◌++◌, drop, length}
use Rattle.std.specs.Vec.Iter.{into_iter_items, into_iter_len}
use Rattle.cj_case.specs.Problems.{plain_problem}
use Rattle.cj_case.specs.Slots.{slot_count}
use Rattle.cj_case.specs.Boxes.{plain_rows}
use Rattle.cj_bezier.specs.AllBoxes.{boxes_of}
use Rattle.cj_brief_checker.proofs.ShownLemmas.{AreLeft}
use Rattle.cj_brief_checker.proofs.showing.in_one.Given as goal

-- the boxes so far, and the rows that are left
abbrev pub invariant-loop-found : goal.invariant-loop-found
invariant-loop-found l =
    let case = plain_problem l.problem in
    record {
      left : AreLeft case l.first (length l.boxes.rows) l._lines (into_iter_items l.found-iterator);
      boxes : plain_rows l.boxes.rows ++ drop (length l.boxes.rows) (boxes_of case) ≡ boxes_of case;
      slots : l.boxes.slots ≡ slot_count case.first case.last;
      count : length l.boxes.rows + length (into_iter_items l.found-iterator) ≡ length (into_iter_items l.initial.found-iterator);
      len : into_iter_len l.found-iterator ≡ length (into_iter_items l.found-iterator);
    }
