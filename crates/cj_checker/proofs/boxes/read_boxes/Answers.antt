use Rattle.std.proofs.Common.{◌∙◌, ◌+◌, Bool, map, refl, sym, ap, arith}
use Rattle.cj_track.specs.Tracks.{plain_track}
use Rattle.cj_case.specs.Problems.{plain_problem}
use Rattle.cj_cert.specs.Certificates.{plain_box_line}
use Rattle.cj_checker.specs.BoxesRead.{fails_behind}
use Rattle.cj_checker.specs.Places.{places_from}
use Rattle.cj_checker.proofs.BoxLemmas.{boxes_more, boxes_now}
use Rattle.cj_checker.proofs.PlaceLemmas.{first_place}
use Rattle.cj_checker.proofs.ReadLemmas.{later_slot, lines_end, next_slots}
use Rattle.cj_checker.proofs.UnfitLemmas.{read_at, read_past}
use Rattle.cj_checker.proofs.boxes.read_boxes.Goals as goal

pub is_box_line-requires-clause-next : goal.is_box_line-requires-clause-next
is_box_line-requires-clause-next c =
    first_place (plain_problem c.args.course.now.problem.now) c.args.object c.in-Some.found c.in-Some.found (plain_track c.args.course.now.track.now) c.requires.object c.in-Some.ensures.first

-- no slot of the object is left
pub returns-in_default-clause-read : goal.returns-in_default-clause-read
returns-in_default-clause-read c line =
    let case = plain_problem c.args.course.now.problem.now in
    let boxes = map plain_box_line c.args.lines.now in
    c.loop-passed.invariant.rest line ∙ next_slots case line boxes c.loop-passed.passed c.args.object c.loop-passed.slot (plain_track c.args.course.now.track.now) c.requires.object c.in_default.ensures.none

-- the next line fails
pub returns-then-not-is_box_line-clause-read : goal.returns-then-not-is_box_line-clause-read
returns-then-not-is_box_line-clause-read c line =
    let case = plain_problem c.args.course.now.problem.now in
    let boxes = map plain_box_line c.args.lines.now in
    let passed = c.loop-passed.passed in
    let found = c.in-Some.found in
    let is = read_at plain_box_line c.args.lines.now c.args.lines.now passed passed c.index-lines-passed.result refl (omega arith) c.index-lines-passed.is refl in
    c.loop-passed.invariant.rest line
    ∙ (later_slot case line boxes passed c.args.object c.loop-passed.slot found (plain_track c.args.course.now.track.now) c.requires.object c.in-Some.ensures.same
    ∙ boxes_now case line passed (places_from case c.args.object found) boxes (plain_box_line c.index-lines-passed.result) is (sym c.is_box_line.ensures.value ∙ c.if-not-is_box_line.true))

pub loop-passed-preserved : goal.loop-passed-preserved
loop-passed-preserved c =
    let case = plain_problem c.args.course.now.problem.now in
    let boxes = map plain_box_line c.args.lines.now in
    let passed = c.loop-passed.passed in
    let found = c.in-Some.found in
    let line_read = c.index-lines-passed.result in
    let is = read_at plain_box_line c.args.lines.now c.args.lines.now passed passed line_read refl (omega arith) c.index-lines-passed.is refl in
    record {
      place = omega arith;
      walks = c.is_box_line.ensures.walks;
      rest = λ line. c.loop-passed.invariant.rest line
          ∙ (later_slot case line boxes passed c.args.object c.loop-passed.slot found (plain_track c.args.course.now.track.now) c.requires.object c.in-Some.ensures.same
          ∙ boxes_more case line passed (places_from case c.args.object found) (places_from case c.args.object (line_read.last + 1)) boxes (plain_box_line line_read) is
          (sym c.is_box_line.ensures.value ∙ c.if-not-is_box_line.false) (c.is_box_line.ensures.behind c.if-not-is_box_line.false));
    }

-- behind the last line
pub returns-clause-read : goal.returns-clause-read
returns-clause-read c line =
    let case = plain_problem c.args.course.now.problem.now in
    let boxes = map plain_box_line c.args.lines.now in
    let passed = c.loop-passed.passed in
    let past = read_past plain_box_line c.args.lines.now c.args.lines.now passed refl (omega arith) in
    let missing = c.next_slot-missing.ensures in
    c.loop-passed.invariant.rest line
    ∙ (lines_end case line boxes passed c.args.object c.loop-passed.slot (plain_track c.args.course.now.track.now) c.next_slot-missing.result c.requires.object past missing.none missing.same missing.first
    ∙ ap (λ (b : Bool). fails_behind case line (places_from case (c.args.object + 1) 0) boxes (record { passed = passed; failed = b })) (sym c.is_some.ensures))
