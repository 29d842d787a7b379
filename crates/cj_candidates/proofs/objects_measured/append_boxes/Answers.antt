use Rattle.std.proofs.Common.{◌≡◌, ◌++◌, ◌∙◌, ℕ, List, [], ◌∷◌, refl, sym, ap, subst, arith, append-nil}
use Rattle.std.specs.Prelude.{Option, option_map}
use Rattle.std.proofs.lemmas.List.{map-append}
use Rattle.cj_base.specs.declared.tick.Window.{Window}
use Rattle.cj_track.specs.declared.track.Track.{Track}
use Rattle.cj_track.specs.Tracks.{plain_track}
use Rattle.cj_case.specs.Slots.{slot_first, slot_last}
use Rattle.cj_case.specs.Boxes.{PlainBox, plain_boxes, plain_box}
use Rattle.cj_bezier.specs.SlotBoxes.{box_of}
use Rattle.cj_bezier.specs.AllBoxes.{boxes_over}
use Rattle.cj_candidates.specs.MeasuredObjects.{IsInOwnBox, IsInOwnBoxes}
use Rattle.cj_candidates.proofs.ObjectLemmas.{in_own_box}
use Rattle.cj_candidates.proofs.BoxLemmas.{boxes_more, in_boxes_more}
use Rattle.cj_candidates.proofs.objects_measured.append_boxes.Goals as goal

pub loop-slot-init : goal.loop-slot-init
loop-slot-init c = record {
  value = sym (append-nil (plain_boxes c.args.boxes.now.items));
  hold = λ k lt. absurd (omega arith);
  walks = c.requires;
  track = refl;
  window = refl;
}

pub loop-slot-preserved : goal.loop-slot-preserved
loop-slot-preserved c =
    let i = c.loop-slot.invariant in
    let walk = c.args.walk.now in
    let first = walk.window.first.micros in
    let last = walk.window.last.micros in
    let e = plain_track walk.track.now in
    let slot = c.loop-slot.slot in
    let found = c.slot_box.result in
    let told = c.slot_box.ensures in
    let done = plain_boxes c.args.boxes.now.items in
    let here = in_own_box (plain_track c.loop-slot.walk.track.now) _ _ found told.exact told.none told.holds in
    let at = slot_first first slot in
    let upto = slot_last first last slot in
    record {
      value = ap plain_boxes c.in_ok-push.ensures.items ∙ map-append (option_map plain_box) c.loop-slot.boxes.items (found ∷ [])
          ∙ ap (λ (bs : List (Option PlainBox)). bs ++ option_map plain_box found ∷ []) i.value
          ∙ ap (λ (b : Option PlainBox). (done ++ boxes_over e first last slot) ++ b ∷ [])
          (told.exact ∙ (λ j. box_of (plain_track (i.track j)) (slot_first (i.window j).first.micros slot) (slot_last (i.window j).first.micros (i.window j).last.micros slot)))
          ∙ boxes_more e first last slot done;
      hold = in_boxes_more e first last slot i.hold
          (subst (λ (t : Track). IsInOwnBox at upto (plain_track t)) i.track
          (subst (λ (w : Window). IsInOwnBox (slot_first w.first.micros slot) (slot_last w.first.micros w.last.micros slot) (plain_track c.loop-slot.walk.track.now)) i.window here));
      walks = told.walks;
      track = told.track ∙ i.track;
      window = told.window ∙ i.window;
    }

pub returns-clause-value : goal.returns-clause-value
returns-clause-value c =
    let walk = c.args.walk.now in
    let end : c.loop-slot.slot ≡ c.args.slots = omega arith in
    c.loop-slot.invariant.value ∙ ap (λ (n : ℕ). plain_boxes c.args.boxes.now.items ++ boxes_over (plain_track walk.track.now) walk.window.first.micros walk.window.last.micros n) end

pub returns-clause-hold : goal.returns-clause-hold
returns-clause-hold c =
    let walk = c.args.walk.now in
    let end : c.loop-slot.slot ≡ c.args.slots = omega arith in
    subst (λ (n : ℕ). IsInOwnBoxes walk.window.first.micros walk.window.last.micros n (plain_track walk.track.now)) end c.loop-slot.invariant.hold
