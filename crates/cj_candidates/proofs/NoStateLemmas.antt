-- A track without a state in the window: it has no shell, and no box in any slot.
use Rattle.std.proofs.Common.{◌≡◌, ℕ, zero, suc, ◌+◌, ◌-◌, ◌++◌, List, ◌∷◌, length, map, take, replicate, Option, None, refl, sym, ap, ◌∙◌, arith}
use Rattle.std.specs.Prelude.{option_map}
use Rattle.std.specs.List.{range_with_len}
use Rattle.std.proofs.lemmas.List.{map-append, take_all}
use Rattle.cj_track.specs.PlainTracks.{PlainTrack}
use Rattle.cj_case.specs.Slots.{slot_first, slot_last}
use Rattle.cj_hermite.specs.Walks.{HasNone}
use Rattle.cj_case.specs.declared.axis_box.AxisBox.{AxisBox}
use Rattle.cj_bezier.specs.AllBoxes.{boxes_over}
use Rattle.cj_case.specs.Boxes.{PlainBox, plain_box, plain_boxes}
use Rattle.cj_bezier.specs.SlotBoxes.{box_of}
use Rattle.cj_bezier.proofs.BoxRoundLemmas.{box_none}

pub none_in_slot : (e : PlainTrack) (first last slot : ℕ) → HasNone e first last → HasNone e (slot_first first slot) (slot_last first last slot)
none_in_slot e first last slot none m low high = none m (omega arith) (omega arith)

all_none : (f : ℕ → Option PlainBox) → ((slot : ℕ) → f slot ≡ None) → (from n : ℕ) → map f (range_with_len from n) ≡ replicate n None
all_none f none from zero = refl
all_none f none from (suc n) = let here = none from in let rest = all_none f none (from + 1) n in λ i. here i ∷ rest i

no_boxes : (e : PlainTrack) (first last n : ℕ) → HasNone e first last → boxes_over e first last n ≡ replicate n None
no_boxes e first last n none =
    all_none (λ slot. box_of e (slot_first first slot) (slot_last first last slot)) (λ slot. box_none e _ _ (none_in_slot e first last slot none)) 0 n

plain_nones : (n : ℕ) → plain_boxes (replicate n None) ≡ replicate n None
plain_nones zero = refl
plain_nones (suc n) = ap (λ (bs : List (Option PlainBox)). None ∷ bs) (plain_nones n)

-- so many boxes that are none, behind those that are there
pub filled_up : (e : PlainTrack) (first last n upto count : ℕ) (old new : List (Option AxisBox)) → HasNone e first last → count ≡ length old → upto ≡ count + n
    → new ≡ take upto old ++ replicate (upto - count) None → plain_boxes new ≡ plain_boxes old ++ boxes_over e first last n
filled_up e first last n upto count old new none counted long are =
    let more : upto - count ≡ n = omega (arith, long) in
    ap plain_boxes (are ∙ ap (λ (bs : List (Option AxisBox)). bs ++ replicate (upto - count) None) (take_all upto old (omega (arith, long, counted)))
    ∙ ap (λ (k : ℕ). old ++ replicate k None) more)
    ∙ map-append (option_map plain_box) old (replicate n None)
    ∙ ap (λ (bs : List (Option PlainBox)). plain_boxes old ++ bs) (plain_nones n ∙ sym (no_boxes e first last n none))
