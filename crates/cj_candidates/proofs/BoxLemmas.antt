-- The boxes of all objects in all slots: object by object, and those of one slot.
use Rattle.std.proofs.Common.{◌≡◌, ℕ, ◌+◌, ◌<◌, ◌++◌, inl, inr, List, [], ◌∷◌, map, Option, Some, refl, sym, ap, subst, ◌∙◌, arith, append_assoc}
use Rattle.std.specs.Prelude.{option_map, slice_get}
use Rattle.std.specs.List.{range_with_len}
use Rattle.std.proofs.lemmas.Bool.{cases_eq}
use Rattle.std.proofs.lemmas.List.{map-append}
use Rattle.std.proofs.lemmas.Option.{slice_get-map}
use Rattle.cj_track.specs.PlainTracks.{PlainTrack}
use Rattle.cj_case.specs.PlainProblems.{PlainProblem}
use Rattle.cj_case.specs.Slots.{slot_first, slot_last, slot_count}
use Rattle.cj_interval.proofs.RangeLemmas.{range_more}
use Rattle.cj_case.proofs.TableLemmas.{made_in_slot}
use Rattle.cj_case.specs.declared.axis_box.AxisBox.{AxisBox}
use Rattle.cj_case.specs.Boxes.{PlainBox, plain_boxes, plain_box, plain_rows}
use Rattle.cj_bezier.specs.SlotBoxes.{box_of}
use Rattle.cj_bezier.specs.Candidates.{boxes_in}
use Rattle.cj_bezier.specs.AllBoxes.{boxes_of, boxes_over}
use Rattle.cj_candidates.specs.MeasuredObjects.{IsInOwnBox, IsInOwnBoxes}

-- ---- object by object

-- one slot more of an object
pub boxes_more : (e : PlainTrack) (first last n : ℕ) (done : List (Option PlainBox)) → (done ++ boxes_over e first last n) ++ box_of e (slot_first first n) (slot_last first last n) ∷ [] ≡ done ++ boxes_over e first last (n + 1)
boxes_more e first last n done =
    let f = λ (slot : ℕ). box_of e (slot_first first slot) (slot_last first last slot) in
    let at : 0 + n ≡ n = omega arith in
    append_assoc done (boxes_over e first last n) (f n ∷ [])
    ∙ ap (λ (k : ℕ). done ++ (boxes_over e first last n ++ f k ∷ [])) (sym at)
    ∙ ap (λ bs. done ++ bs) (sym (ap (map f) (range_more 0 n) ∙ map-append f (range_with_len 0 n) ((0 + n) ∷ [])))

pub in_boxes_more : (e : PlainTrack) (first last n : ℕ) → IsInOwnBoxes first last n e → IsInOwnBox (slot_first first n) (slot_last first last n) e → IsInOwnBoxes first last (n + 1) e
in_boxes_more e first last n before here k lt = elim (cases_eq k n) [
  | inl same ↦ subst (λ (j : ℕ). IsInOwnBox (slot_first first j) (slot_last first last j) e) (sym same) here
  | inr other ↦ before k (omega arith)
]

-- ---- the boxes of one slot

-- what is found in a slot, row by row
slot_in : (es : List PlainTrack) (first last n slot : ℕ) (rows : List (List (Option AxisBox))) (here : List (Option AxisBox)) → slot < n
    → plain_rows rows ≡ map (λ e. boxes_over e first last n) es → map Some here ≡ map (λ row. slice_get row slot) rows
    → plain_boxes here ≡ map (λ e. box_of e (slot_first first slot) (slot_last first last slot)) es
slot_in [] first last n slot [] [] lt same found = refl
slot_in [] first last n slot [] (b ∷ here) lt same found = absurd cc
slot_in [] first last n slot (row ∷ rows) here lt same found = absurd cc
slot_in (e ∷ es) first last n slot [] here lt same found = absurd cc
slot_in (e ∷ es) first last n slot (row ∷ rows) [] lt same found = absurd cc
slot_in (e ∷ es) first last n slot (row ∷ rows) (b ∷ here) lt same found =
    let box = λ (k : ℕ). box_of e (slot_first first k) (slot_last first last k) in
    let own : plain_boxes row ≡ boxes_over e first last n = cc in
    let others : plain_rows rows ≡ map (λ e. boxes_over e first last n) es = cc in
    let got : Some b ≡ slice_get row slot = cc in
    let more : map Some here ≡ map (λ row. slice_get row slot) rows = cc in
    let seen : Some (option_map plain_box b) ≡ Some (box slot) =
    ap (option_map (option_map plain_box)) got
    ∙ (sym (slice_get-map (option_map plain_box) row slot) ∙ ap (λ bs. slice_get bs slot) own ∙ made_in_slot box n slot lt) in
    let first_box : option_map plain_box b ≡ box slot = cc in
    let rest = slot_in es first last n slot rows here lt others more in
    λ i. first_box i ∷ rest i

pub boxes_there : (case : PlainProblem) (slot n : ℕ) (rows : List (List (Option AxisBox))) (here : List (Option AxisBox)) → n ≡ slot_count case.first case.last → slot < n
    → plain_rows rows ≡ boxes_of case → map Some here ≡ map (λ row. slice_get row slot) rows → plain_boxes here ≡ boxes_in case slot
unfolding boxes_of boxes_in
boxes_there case slot n rows here count lt same found =
    slot_in case.tracks case.first case.last (slot_count case.first case.last) slot rows here (omega (arith, count, lt)) same found
