-- The roots of two objects, that are a candidate in the first slot alone.
use Rattle.std.proofs.Common.{◌≡◌, ℕ, zero, suc, ◌+◌, ◌<◌, Bool, true, false, List, [], ◌∷◌, ◌++◌, length, refl, ap, ◌∙◌, arith}
use Rattle.std.specs.Prelude.{filter}
use Rattle.std.proofs.lemmas.List.{append-nil}
use Rattle.std.specs.List.{flat_map, range_with_len}
use Rattle.cj_case.specs.PlainProblems.{PlainProblem}
use Rattle.cj_case.specs.Pairs.{pairs_of}
use Rattle.cj_case.specs.Slots.{slot_count}
use Rattle.cj_case.specs.Cells.{PlainCell}
use Rattle.cj_hermite.specs.Roots.{roots_in_slot, roots_by_slot}

abbrev pub first_slot : ℕ → ℕ → ℕ → Bool
first_slot a b zero = true
first_slot a b (suc slot) = false

later : (a b slot : ℕ) → 0 < slot → first_slot a b slot ≡ false
later a b zero lt = absurd (omega arith)
later a b (suc slot) lt = refl

none_kept : (slot : ℕ) (pairs : List (ℕ × ℕ)) → 0 < slot → filter (λ (pair : ℕ × ℕ). first_slot pair.0 pair.1 slot) pairs ≡ []
none_kept slot [] lt = refl
none_kept slot (p ∷ ps) lt = rw (later p.0 p.1 slot lt) (none_kept slot ps lt)

all_kept : (pairs : List (ℕ × ℕ)) → filter (λ (pair : ℕ × ℕ). first_slot pair.0 pair.1 0) pairs ≡ pairs
all_kept [] = refl
all_kept (p ∷ ps) = ap (λ qs. p ∷ qs) (all_kept ps)

-- the roots of these pairs in a slot
abbrev in_first : PlainProblem → List (ℕ × ℕ) → ℕ → List PlainCell
in_first case pairs slot = roots_in_slot case slot (filter (λ (pair : ℕ × ℕ). first_slot pair.0 pair.1 slot) pairs)

later_slots : (case : PlainProblem) (pairs : List (ℕ × ℕ)) (slot n : ℕ) → 0 < slot → flat_map (in_first case pairs) (range_with_len slot n) ≡ []
later_slots case pairs slot zero lt = refl
later_slots case pairs slot (suc n) lt = rw (none_kept slot pairs lt) (later_slots case pairs (slot + 1) n (omega arith))

-- the roots of two objects are those of their pair in the first slot
pub one_slot : (case : PlainProblem) (n : ℕ) → length case.tracks ≡ 2 → slot_count case.first case.last ≡ suc n → roots_by_slot first_slot case ≡ roots_in_slot case 0 ((0, 1) ∷ [])
unfolding roots_by_slot
one_slot case n two slots =
    let pairs = pairs_of (length case.tracks) in
    let all : flat_map (in_first case pairs) (range_with_len 0 (slot_count case.first case.last)) ≡ in_first case pairs 0 ++ flat_map (in_first case pairs) (range_with_len 1 n) =
    ap (λ (k : ℕ). flat_map (in_first case pairs) (range_with_len 0 k)) slots in
    let rest = later_slots case pairs 1 n (omega arith) in
    let here : in_first case pairs 0 ≡ roots_in_slot case 0 ((0, 1) ∷ []) = ap (roots_in_slot case 0) (all_kept pairs ∙ ap pairs_of two) in
    all ∙ (λ j. here j ++ rest j) ∙ append-nil (roots_in_slot case 0 ((0, 1) ∷ []))
