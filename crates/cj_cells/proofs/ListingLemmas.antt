-- The one-thread list, root by root and slot by slot.
use Rattle.std.proofs.Common.{◌≡◌, ℕ, zero, suc, ◌+◌, ◌-◌, ◌<◌, ◌≤◌, Bool, List, [], ◌∷◌, ◌++◌, length, take, drop, get_or, refl, sym, ap, subst, ◌∙◌, arith, append-nil, length-append}
use Rattle.std.specs.Prelude.{All, Err, IsErrOf}
use Rattle.std.specs.List.{flat_map, range_with_len}
use Rattle.std.proofs.lemmas.List.{take_more, map_push, map-append, take-append-drop, drop_more}
use Rattle.std.proofs.lemmas.List.Concat.{flat_map-append}
use Rattle.std.proofs.lemmas.List.Elements.{All-push, All-same}
use Rattle.std.proofs.lemmas.List.Sums.{sum_by-append, sum_by_push}
use Rattle.cj_case.specs.PlainProblems.{PlainProblem}
use Rattle.cj_case.specs.declared.cell.Cell.{Cell}
use Rattle.cj_case.specs.declared.leaf.Leaf.{Leaf}
use Rattle.cj_case.specs.Leaves.{PlainLeaf, plain_leaf, plain_leaves}
use Rattle.cj_case.specs.Slots.{slot_count}
use Rattle.cj_case.specs.Cells.{PlainCell}
use Rattle.cj_hermite.specs.Roots.{KeepPieces, roots_in_slot, roots_of, roots_by_slot}
use Rattle.cj_bezier.specs.Candidates.{is_candidate, candidate_pairs}
use Rattle.cj_case.specs.Cells.{plain_cell, plain_cells}
use Rattle.cj_cells.specs.Cells.{added_roots, added_leaves}
use Rattle.cj_cells.specs.Lists.{looks_of_root, looks_of_roots}
use Rattle.cj_bezier.specs.RootLeaves.{leaves_of_root, leaves_of_roots}
use Rattle.cj_interval.proofs.ListLemmas.{Each, Each-weaker, All-from_each, each_from_map}
use Rattle.cj_interval.proofs.RangeLemmas.{range_more}
use Rattle.cj_hermite.proofs.RootLemmas.{IsRootOf, Each-roots}
use Rattle.cj_hermite.proofs.CurveLemmas.{root_pieces}
use Rattle.cj_interval.proofs.SumLemmas.{total}
use Rattle.cj_hermite.proofs.RootSumLemmas.{same_roots}

-- ---- slots

abbrev pub roots_to : PlainProblem → ℕ → List PlainCell
roots_to case k = flat_map (λ slot. roots_in_slot case slot (candidate_pairs case slot)) (range_with_len 0 k)

pub slot_more : (case : PlainProblem) (k : ℕ) → roots_to case (k + 1) ≡ roots_to case k ++ roots_in_slot case k (candidate_pairs case k)
slot_more case k =
    ap (flat_map (λ slot. roots_in_slot case slot (candidate_pairs case slot))) (range_more 0 k)
    ∙ flat_map-append (λ slot. roots_in_slot case slot (candidate_pairs case slot)) (range_with_len 0 k) ((0 + k) ∷ [])
    ∙ ap (λ rs. roots_to case k ++ rs) (append-nil (roots_in_slot case (0 + k) (candidate_pairs case (0 + k))))
    ∙ (let e : 0 + k ≡ k = omega arith in ap (λ (j : ℕ). roots_to case k ++ roots_in_slot case j (candidate_pairs case j)) e)

-- the roots slot by slot
pub by_slot : (case : PlainProblem) → roots_to case (slot_count case.first case.last) ≡ roots_by_slot (is_candidate case) case
unfolding roots_by_slot
by_slot case = refl

roots_to_le : (case : PlainProblem) (j n : ℕ) → length (roots_to case j) ≤ length (roots_to case (j + n))
roots_to_le case j zero = let e : j + 0 ≡ j = omega arith in rw e (omega arith)
roots_to_le case j (suc n) =
    let e : j + suc n ≡ j + n + 1 = omega arith in
    let before = roots_to_le case j n in
    let more = ap length (slot_more case (j + n)) in
    rw e (omega (arith, before, more, length-append (roots_to case (j + n)) (roots_in_slot case (j + n) (candidate_pairs case (j + n)))))

length_is : {X : Type 0} (xs : List X) → length xs ≡ total (λ x. 1) xs
unfolding total
length_is [] = refl
length_is (x ∷ xs) = let rest = length_is xs in omega arith

-- slot by slot there are as many roots as in all
pub same_count : (case : PlainProblem) → length (roots_by_slot (is_candidate case) case) ≡ length (roots_of (is_candidate case) case)
same_count case = length_is (roots_by_slot (is_candidate case) case) ∙ same_roots (is_candidate case) case (λ r. 1) ∙ sym (length_is (roots_of (is_candidate case) case))

-- no slot has more roots than there are in all
pub slots_count : (case : PlainProblem) (k : ℕ) → k < slot_count case.first case.last → length (roots_to case k) + length (roots_in_slot case k (candidate_pairs case k)) ≤ length (roots_of (is_candidate case) case)
slots_count case k lt =
    let next = ap length (slot_more case k) in
    let count = slot_count case.first case.last in
    let at : k + 1 + (count - (k + 1)) ≡ count = omega arith in
    let upto = subst (λ (n : ℕ). length (roots_to case (k + 1)) ≤ length (roots_to case n)) at (roots_to_le case (k + 1) (count - (k + 1))) in
    let slots = ap length (by_slot case) in
    let same = same_count case in
    omega (arith, next, upto, slots, same, length-append (roots_to case k) (roots_in_slot case k (candidate_pairs case k)))

-- cells that were added behind others
pub cells_more : (old new : List Cell) → take (length old) new ≡ old → plain_cells new ≡ plain_cells old ++ added_roots old new
cells_more old new kept =
    ap plain_cells (sym (take-append-drop (length old) new) ∙ ap (λ (xs : List Cell). xs ++ drop (length old) new) kept)
    ∙ map-append plain_cell old (drop (length old) new)

-- ---- leaves

pub leaves_more : (old new : List Leaf) → take (length old) new ≡ old → plain_leaves new ≡ plain_leaves old ++ added_leaves old new
leaves_more old new kept =
    ap plain_leaves (sym (take-append-drop (length old) new) ∙ ap (λ (xs : List Leaf). xs ++ drop (length old) new) kept)
    ∙ map-append plain_leaf old (drop (length old) new)

abbrev pub leaves_of_cells : PlainProblem → List Cell → List PlainLeaf
leaves_of_cells case cells = leaves_of_roots case (plain_cells cells)

pub root_more : (case : PlainProblem) (i : ℕ) (cells : List Cell) (c : Cell) → i < length cells → c ≡ get_or cells i c →
    leaves_of_cells case (take (i + 1) cells) ≡ leaves_of_cells case (take i cells) ++ leaves_of_root case (plain_cell c)
unfolding leaves_of_roots
root_more case i cells c lt is =
    ap (leaves_of_cells case) (take_more cells i c lt)
    ∙ ap (leaves_of_roots case) (map_push plain_cell (take i cells) (get_or cells i c))
    ∙ flat_map-append (leaves_of_root case) (plain_cells (take i cells)) (plain_cell (get_or cells i c) ∷ [])
    ∙ ap (λ (ss : List PlainLeaf). leaves_of_cells case (take i cells) ++ ss) (append-nil (leaves_of_root case (plain_cell (get_or cells i c))))
    ∙ ap (λ (x : Cell). leaves_of_cells case (take i cells) ++ leaves_of_root case (plain_cell x)) (sym is)

pub roots_apart : (case : PlainProblem) (i : ℕ) (cells : List Cell) (c : Cell) → i < length cells → c ≡ get_or cells i c →
    leaves_of_cells case cells ≡ leaves_of_cells case (take i cells) ++ (leaves_of_root case (plain_cell c) ++ leaves_of_cells case (drop (i + 1) cells))
unfolding leaves_of_roots
roots_apart case i cells c lt is =
    ap (leaves_of_cells case) (sym (take-append-drop i cells) ∙ ap (λ (xs : List Cell). take i cells ++ xs) (drop_more cells i c lt))
    ∙ ap (leaves_of_roots case) (map-append plain_cell (take i cells) (get_or cells i c ∷ drop (i + 1) cells))
    ∙ flat_map-append (leaves_of_root case) (plain_cells (take i cells)) (plain_cells (get_or cells i c ∷ drop (i + 1) cells))
    ∙ ap (λ (x : Cell). leaves_of_cells case (take i cells) ++ (leaves_of_root case (plain_cell x) ++ leaves_of_cells case (drop (i + 1) cells))) (sym is)

pub described_more : (P : PlainCell → Type 0) (i : ℕ) (cells : List Cell) (c : Cell) → i < length cells → c ≡ get_or cells i c → All P (plain_cells (take i cells)) → P (plain_cell c) → All P (plain_cells (take (i + 1) cells))
described_more P i cells c lt is all here =
    All-same P (plain_cells (take (i + 1) cells)) (plain_cells (take i cells) ++ plain_cell c ∷ [])
    (ap plain_cells (take_more cells i c lt) ∙ map_push plain_cell (take i cells) (get_or cells i c) ∙ ap (λ (x : Cell). plain_cells (take i cells) ++ plain_cell x ∷ []) (sym is))
    (All-push P (plain_cells (take i cells)) (plain_cell c) all here)

-- how often the first of some cells are looked at, one more, and that this is no more than all
pub looks_more : (case : PlainProblem) (i : ℕ) (cells : List Cell) (c : Cell) → i < length cells → c ≡ get_or cells i c →
    looks_of_roots case (plain_cells (take (i + 1) cells)) ≡ looks_of_roots case (plain_cells (take i cells)) + looks_of_root case (plain_cell c)
looks_more case i cells c lt is =
    ap (λ (cs : List Cell). looks_of_roots case (plain_cells cs)) (take_more cells i c lt)
    ∙ ap (looks_of_roots case) (map_push plain_cell (take i cells) (get_or cells i c))
    ∙ sum_by_push (looks_of_root case) (plain_cells (take i cells)) (plain_cell (get_or cells i c))
    ∙ ap (λ (x : Cell). looks_of_roots case (plain_cells (take i cells)) + looks_of_root case (plain_cell x)) (sym is)

pub looks_within : (case : PlainProblem) (i : ℕ) (cells : List Cell) → looks_of_roots case (plain_cells (take i cells)) ≤ looks_of_roots case (plain_cells cells)
looks_within case i cells =
    let apart = ap (λ (cs : List Cell). looks_of_roots case (plain_cells cs)) (sym (take-append-drop i cells))
    ∙ ap (looks_of_roots case) (map-append plain_cell (take i cells) (drop i cells))
    ∙ sum_by-append (looks_of_root case) (plain_cells (take i cells)) (plain_cells (drop i cells)) in
    omega (arith, apart)

-- the cells of all roots keep their pieces
pub cells_keep : (candidate : ℕ → ℕ → ℕ → Bool) (case : PlainProblem) (cells : List Cell) → plain_cells cells ≡ roots_of candidate case →
    All (λ cell. KeepPieces case cell.pair.a cell.pair.b cell.first.micros cell.last.micros) cells
cells_keep candidate case cells same =
    All-from_each (λ cell. KeepPieces case cell.pair.a cell.pair.b cell.first.micros cell.last.micros) cells
    (each_from_map (λ (r : PlainCell). KeepPieces case r.a r.b r.first r.last) plain_cell cells
    (subst (Each (λ (r : PlainCell). KeepPieces case r.a r.b r.first r.last)) (sym same)
    (Each-weaker (IsRootOf case) (λ (r : PlainCell). KeepPieces case r.a r.b r.first r.last) (root_pieces case) (roots_of candidate case) (Each-roots candidate case))))

-- an error is the same whatever was due
pub error_is : {S T E : Type 0} (x y : E) → IsErrOf {T = S} {E = E} (Err x) y → IsErrOf {T = T} {E = E} (Err x) y
error_is x y is = let same : x ≡ y = cc in ap (λ e. Err e) same
