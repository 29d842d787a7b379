use Rattle.std.proofs.Common.{◌∙◌, sym, arith}
use Rattle.cj_track.specs.Tracks.{plain_track}
use Rattle.cj_case.specs.Problems.{plain_problem}
use Rattle.cj_case.specs.Boxes.{plain_box}
use Rattle.cj_checker.specs.Tests.{is_in_box}
use Rattle.cj_checker.proofs.BoxLemmas.{no_slots, beyond, all_more, one_fails}
use Rattle.cj_checker.proofs.boxes.holds_hulls.Goals.{then-line-via-then-line, then-line-via-else-line+then-slot_count-line}
use Rattle.cj_checker.proofs.boxes.holds_hulls.Goals as goal

pub returns-then-line-clause-value : goal.returns-then-line-clause-value
returns-then-line-clause-value c =
    let case = plain_problem c.args.course.now.problem.now in
    let line = c.args.line.now in
    elim c.then-line.branch [
      | then-line-via-then-line w ↦ no_slots line.first line.last _ w.if-line.true
      | then-line-via-else-line+then-slot_count-line w ↦
          beyond case (plain_track c.args.course.now.track.now) (plain_box line.area) line.first line.last w.if-line.false (omega (arith, w.slot_count.ensures, w.if-slot_count-line.true))
    ]

pub returns-then-not-is_in_box-clause-value : goal.returns-then-not-is_in_box-clause-value
returns-then-not-is_in_box-clause-value c =
    let line = c.args.line.now in
    let fits = is_in_box (plain_problem c.args.course.now.problem.now) (plain_track c.args.course.now.track.now) (plain_box line.area) in
    one_fails fits line.first line.last c.loop-slot.slot (omega arith) c.loop-slot.invariant.rest (sym c.is_in_box.ensures.value ∙ c.if-not-is_in_box.true)

pub loop-slot-preserved : goal.loop-slot-preserved
loop-slot-preserved c =
    let line = c.args.line.now in
    let fits = is_in_box (plain_problem c.args.course.now.problem.now) (plain_track c.args.course.now.track.now) (plain_box line.area) in
    record {
      walks = c.is_in_box.ensures.walks;
      rest = c.loop-slot.invariant.rest ∙ all_more fits line.last c.loop-slot.slot (omega arith) (sym c.is_in_box.ensures.value ∙ c.if-not-is_in_box.false);
    }
