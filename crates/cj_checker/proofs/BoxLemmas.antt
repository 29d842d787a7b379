-- The lines of boxes, one after another.
use Rattle.std.proofs.Common.{◌≡◌, ℕ, suc, ◌+◌, ◌-◌, ◌<◌, ◌≤◌, Bool, true, false, ◌&&◌, List, [], ◌∷◌, length, map, drop, Some, None, refl, sym, ap, ◌∙◌, inl, inr, arith}
use Rattle.std.specs.Prelude.{◌==◌, if◌then◌else◌, nat_le, slice_get}
use Rattle.std.specs.List.{list_all, range_with_len}
use Rattle.std.proofs.lemmas.Bool.{and_left, and_parts, and_right, cases_lt, leb-true, lt-leb}
use Rattle.std.proofs.lemmas.List.FromFn.{length-map-range_with_len}
use Rattle.cj_interval.proofs.RangeLemmas.{one_in_range_fails}
use Rattle.cj_track.specs.PlainTracks.{PlainTrack}
use Rattle.cj_case.specs.PlainProblems.{PlainProblem}
use Rattle.cj_case.specs.Slots.{slot_count}
use Rattle.cj_case.specs.Boxes.{PlainBox}
use Rattle.cj_cert.specs.Certificates.{PlainBoxLine}
use Rattle.cj_cert.specs.Listed.{slots_of_line}
use Rattle.cj_formats.specs.declared.check_cause.CheckCause.TheVariants.{BoxOf}
use Rattle.cj_checker.specs.First.{failed, unlisted, boxes_from}
use Rattle.cj_checker.specs.Places.{places_from}
use Rattle.cj_checker.specs.Tests.{are_in_front, holds_hulls, is_box_line, is_in_box}
use Rattle.cj_checker.proofs.PlaceLemmas.{run_behind, run_test, slot_behind}
use Rattle.cj_checker.proofs.UnfitLemmas.{dropped, ended}

-- ---- one line

-- a line that begins with the next slot
pub line_test : (case : PlainProblem) (left : List (ℕ × ℕ)) (line : PlainBoxLine) (e : PlainTrack) → slice_get case.tracks line.object ≡ Some e
    → left ≡ places_from case line.object line.first
    → (nat_le line.first line.last && list_all (is_in_box case e line.area) (range_with_len line.first (line.last + 1 - line.first))) ≡ is_box_line case left line
line_test case left line e is are =
    (λ j. nat_le line.first line.last && sym (run_test case line e is line.first (line.last + 1 - line.first)) j)
    ∙ ap (λ (places : List (ℕ × ℕ)). is_box_line case places line) (sym are)

pub behind_line : (case : PlainProblem) (left : List (ℕ × ℕ)) (line : PlainBoxLine) (e : PlainTrack) → slice_get case.tracks line.object ≡ Some e
    → left ≡ places_from case line.object line.first
    → (nat_le line.first line.last && list_all (is_in_box case e line.area) (range_with_len line.first (line.last + 1 - line.first))) ≡ true
    → drop (length (slots_of_line line)) left ≡ places_from case line.object (line.last + 1)
behind_line case left line e is are passes =
    let both = and_parts (nat_le line.first line.last) (list_all (is_in_box case e line.area) (range_with_len line.first (line.last + 1 - line.first))) passes in
    let some = leb-true line.first line.last both.0 in
    let count = length-map-range_with_len (λ (slot : ℕ). let place : ℕ × ℕ = (line.object, slot) in place) line.first (line.last + 1 - line.first) in
    let end : line.first + (line.last + 1 - line.first) ≡ line.last + 1 = omega arith in
    (λ j. drop (count j) (are j))
    ∙ (run_behind case line.object line.area e is line.first (line.last + 1 - line.first) both.1 ∙ ap (λ (k : ℕ). places_from case line.object k) end)

-- a line with another place than the next one
pub other_line : (case : PlainProblem) (line : PlainBoxLine) (object slot : ℕ) (left rest : List (ℕ × ℕ)) → left ≡ (object, slot) ∷ rest
    → ((line.object == object) && (line.first == slot)) ≡ false → false ≡ is_box_line case left line
other_line case line object slot left rest are other = elim (cases_lt line.last line.first) [
  | inl lt ↦ sym (and_left (nat_le line.first line.last) _ (lt-leb line.first line.last lt))
  | inr le ↦
      let n : line.last + 1 - line.first ≡ suc (line.last + 1 - (line.first + 1)) = omega arith in
      let slots = map (λ (s : ℕ). let place : ℕ × ℕ = (line.object, s) in place) (range_with_len (line.first + 1) (line.last + 1 - (line.first + 1))) in
      let front : are_in_front (slots_of_line line) left ≡ false =
      (λ j. are_in_front (map (λ (s : ℕ). let place : ℕ × ℕ = (line.object, s) in place) (range_with_len line.first (n j))) (are j)) ∙ (λ j. other j && are_in_front slots rest) in
      sym (and_right (nat_le line.first line.last) (are_in_front (slots_of_line line) left && holds_hulls case line) (λ j. front j && holds_hulls case line))
]

-- a line where no place is left
no_place_left : (case : PlainProblem) (line : PlainBoxLine) → is_box_line case [] line ≡ false
no_place_left case line = elim (cases_lt line.last line.first) [
  | inl lt ↦ and_left (nat_le line.first line.last) _ (lt-leb line.first line.last lt)
  | inr le ↦
      let n : line.last + 1 - line.first ≡ suc (line.last + 1 - (line.first + 1)) = omega arith in
      let front : are_in_front (slots_of_line line) [] ≡ false =
      (λ j. are_in_front (map (λ (s : ℕ). let place : ℕ × ℕ = (line.object, s) in place) (range_with_len line.first (n j))) []) in
      and_right (nat_le line.first line.last) (are_in_front (slots_of_line line) [] && holds_hulls case line) (λ j. front j && holds_hulls case line)
]

-- ---- slots of a line

-- a line that ends before it begins
pub no_slots : (first last : ℕ) (b : Bool) → last < first → false ≡ (nat_le first last && b)
no_slots first last b lt = sym (and_left (nat_le first last) b (lt-leb first last lt))

-- a line that ends behind the window
pub beyond : (case : PlainProblem) (e : PlainTrack) (area : PlainBox) (first last : ℕ) → first ≤ last → slot_count case.first case.last ≤ last
    → false ≡ (nat_le first last && list_all (is_in_box case e area) (range_with_len first (last + 1 - first)))
beyond case e area first last le behind =
    sym (and_right (nat_le first last) (list_all (is_in_box case e area) (range_with_len first (last + 1 - first)))
    (one_in_range_fails (is_in_box case e area) first (last + 1 - first) last le (omega arith) (and_left _ _ (slot_behind case e last behind))))

-- a slot that passes
pub all_more : (p : ℕ → Bool) (last slot : ℕ) → slot ≤ last → p slot ≡ true → list_all p (range_with_len slot (last + 1 - slot)) ≡ list_all p (range_with_len (slot + 1) (last + 1 - (slot + 1)))
all_more p last slot le passes = let n : last + 1 - slot ≡ suc (last + 1 - (slot + 1)) = omega arith in rw (n, passes) refl

-- a slot that does not
pub one_fails : (p : ℕ → Bool) (first last slot : ℕ) → slot ≤ last → list_all p (range_with_len first (last + 1 - first)) ≡ list_all p (range_with_len slot (last + 1 - slot)) → p slot ≡ false
    → false ≡ (nat_le first last && list_all p (range_with_len first (last + 1 - first)))
one_fails p first last slot le rest fails =
    sym (and_right (nat_le first last) (list_all p (range_with_len first (last + 1 - first))) (rest ∙ one_in_range_fails p slot (last + 1 - slot) slot (omega arith) (omega arith) fails))

-- ---- line by line

boxes_here : (case : PlainProblem) (at : ℕ) (left : List (ℕ × ℕ)) (b : PlainBoxLine) (boxes : List PlainBoxLine) (t : Bool) → is_box_line case left b ≡ t
    → boxes_from case at left (b ∷ boxes) ≡ (if t then boxes_from case (at + 1) (drop (length (slots_of_line b)) left) boxes else failed at BoxOf)
unfolding boxes_from
boxes_here case at left b boxes t is = ap (λ (t : Bool). if t then boxes_from case (at + 1) (drop (length (slots_of_line b)) left) boxes else failed at BoxOf) is

boxes_none : (case : PlainProblem) (at : ℕ) (left : List (ℕ × ℕ)) → boxes_from case at left [] ≡ unlisted at left
unfolding boxes_from
boxes_none case at left = refl

-- a line that passes
pub boxes_more : (case : PlainProblem) (line k : ℕ) (left after : List (ℕ × ℕ)) (boxes : List PlainBoxLine) (b : PlainBoxLine) → slice_get boxes k ≡ Some b → is_box_line case left b ≡ true
    → drop (length (slots_of_line b)) left ≡ after → boxes_from case (line + k) left (drop k boxes) ≡ boxes_from case (line + (k + 1)) after (drop (k + 1) boxes)
boxes_more case line k left after boxes b is passes behind =
    let next : line + k + 1 ≡ line + (k + 1) = omega arith in
    ap (boxes_from case (line + k) left) (dropped boxes k b is)
    ∙ (boxes_here case (line + k) left b (drop (k + 1) boxes) true passes
    ∙ (λ j. boxes_from case (next j) (behind j) (drop (k + 1) boxes)))

-- a line that does not
pub boxes_now : (case : PlainProblem) (line k : ℕ) (left : List (ℕ × ℕ)) (boxes : List PlainBoxLine) (b : PlainBoxLine) → slice_get boxes k ≡ Some b → is_box_line case left b ≡ false
    → boxes_from case (line + k) left (drop k boxes) ≡ failed (line + k) BoxOf
boxes_now case line k left boxes b is fails = ap (boxes_from case (line + k) left) (dropped boxes k b is) ∙ boxes_here case (line + k) left b (drop (k + 1) boxes) false fails

-- behind the last line
pub boxes_missing : (case : PlainProblem) (line k : ℕ) (left : List (ℕ × ℕ)) (boxes : List PlainBoxLine) (place : ℕ × ℕ) (rest : List (ℕ × ℕ)) → slice_get boxes k ≡ None → left ≡ place ∷ rest
    → boxes_from case (line + k) left (drop k boxes) ≡ failed (line + k) BoxOf
boxes_missing case line k left boxes place rest is are =
    ap (boxes_from case (line + k) left) (ended boxes k is) ∙ (boxes_none case (line + k) left ∙ ap (unlisted (line + k)) are)

pub boxes_done : (case : PlainProblem) (line k : ℕ) (left : List (ℕ × ℕ)) (boxes : List PlainBoxLine) → slice_get boxes k ≡ None → left ≡ []
    → boxes_from case (line + k) left (drop k boxes) ≡ None
boxes_done case line k left boxes is are =
    ap (boxes_from case (line + k) left) (ended boxes k is) ∙ (boxes_none case (line + k) left ∙ ap (unlisted (line + k)) are)

-- a line that is left behind the last place
pub boxes_left : (case : PlainProblem) (at : ℕ) (b : PlainBoxLine) (boxes : List PlainBoxLine) → boxes_from case at [] (b ∷ boxes) ≡ failed at BoxOf
boxes_left case at b boxes = boxes_here case at [] b boxes false (no_place_left case b)
