use Rattle.std.proofs.Common.{◌≡◌, ◌++◌, ◌∙◌, ℕ, List, [], ◌∷◌, ap, arith, append-nil, sym}
use Rattle.std.specs.Prelude.{Option, option_map}
use Rattle.std.proofs.lemmas.List.{map-append}
use Rattle.cj_track.specs.Tracks.{plain_track}
use Rattle.cj_case.specs.Boxes.{PlainBox, plain_box, plain_boxes}
use Rattle.cj_bezier.specs.AllBoxes.{boxes_over}
use Rattle.cj_checker.proofs.RowLemmas.{boxes_more}
use Rattle.cj_checker.proofs.rows.append_boxes.Goals as goal

pub loop-slot-init : goal.loop-slot-init
loop-slot-init c = record {
  boxes = sym (append-nil (plain_boxes c.args.boxes.now.items));
  walks = c.requires;
}

pub loop-slot-preserved : goal.loop-slot-preserved
loop-slot-preserved c =
    let i = c.loop-slot.invariant in
    let window = c.args.course.now.problem.now.window in
    let e = plain_track c.args.course.now.track.now in
    let found = c.box_of_hulls.result in
    let done = plain_boxes c.args.boxes.now.items in
    let before = boxes_over e window.first.micros window.last.micros c.loop-slot.slot in
    record {
      boxes = ap plain_boxes c.in_ok-push.ensures.items ∙ map-append (option_map plain_box) c.loop-slot.boxes.items (found ∷ [])
          ∙ ap (λ (bs : List (Option PlainBox)). bs ++ option_map plain_box found ∷ []) i.boxes
          ∙ ap (λ (b : Option PlainBox). (done ++ before) ++ b ∷ []) c.box_of_hulls.ensures.value
          ∙ boxes_more e window.first.micros window.last.micros c.loop-slot.slot done;
      walks = c.box_of_hulls.ensures.walks;
    }

pub returns-clause-boxes : goal.returns-clause-boxes
returns-clause-boxes c =
    let window = c.args.course.now.problem.now.window in
    let end : c.loop-slot.slot ≡ c.args.slots = omega arith in
    c.loop-slot.invariant.boxes ∙ ap (λ (n : ℕ). plain_boxes c.args.boxes.now.items ++ boxes_over (plain_track c.args.course.now.track.now) window.first.micros window.last.micros n) end
