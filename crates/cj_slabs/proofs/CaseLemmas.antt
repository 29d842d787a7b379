-- What is found in all slots is what there is of a case.
use Rattle.std.proofs.Common.{◌≡◌, ℕ, ◌*◌, ◌<◌, ◌≤◌, Bool, true, false, cond, List, [], ◌∷◌, length, get_or, refl, ap, subst, ◌∙◌, arith}
use Rattle.std.specs.Prelude.{All, Result, Ok, Err, IfOk, OnOk, filter}
use Rattle.std.specs.List.{flat_map, range_with_len}
use Rattle.std.proofs.lemmas.List.FromFn.{get_or-range_with_len, length-range_with_len}
use Rattle.std.proofs.lemmas.List.Sums.{sum_by-le}
use Rattle.cj_interval.proofs.ListLemmas.{Each, Each-flat_map, Each-weaker, All-from_each, each_from_All, each_from_append, each_from_flat_map}
use Rattle.cj_case.specs.declared.measured.Measured.{Measured}
use Rattle.cj_case.specs.declared.problem.Problem.{Problem}
use Rattle.cj_case.specs.PlainProblems.{PlainProblem}
use Rattle.cj_case.specs.Problems.{plain_problem}
use Rattle.cj_case.specs.Pairs.{pairs_of}
use Rattle.cj_case.specs.Cells.{PlainCell}
use Rattle.cj_case.specs.Leaves.{plain_leaves}
use Rattle.cj_case.specs.Slots.{slot_count}
use Rattle.cj_case.proofs.PairLemmas.{IsPair, Each-pairs}
use Rattle.cj_hermite.specs.Roots.{roots_in, roots_by_slot, roots_of, slots_of}
use Rattle.cj_bezier.specs.Candidates.{boxes_in, candidate_pairs, is_candidate, shells_of}
use Rattle.cj_bezier.specs.AllBoxes.{boxes_of}
use Rattle.cj_bezier.specs.Enclosed.{OthersAreFar}
use Rattle.cj_bezier.specs.MeasuredObjects.{AreMeasured}
use Rattle.cj_bezier.specs.RootLeaves.{leaves_of_root, leaves_of_roots, Describe}
use Rattle.cj_bezier.proofs.FarLemmas.{others_far}
use Rattle.cj_cells.specs.Lists.{list_of, list_candidates}
use Rattle.cj_bezier.specs.ToldLeaves.{told_by, told_leaves}
use Rattle.cj_cells.proofs.LeafLemmas.{DescribesCase, list_described}
use Rattle.cj_candidates.specs.Counts.{candidate_count}
use Rattle.cj_candidates.specs.MeasuredObjects.{AreOfProblem}
use Rattle.cj_candidates.proofs.CountLemmas.{candidates_few}
use Rattle.cj_candidates.proofs.ObjectLemmas.{in_boxes, in_shells}
use Rattle.cj_slabs.specs.declared.sifted.Sifted.{Sifted}
use Rattle.cj_slabs.specs.Counts.{AreCounts, AreCountsOf}
use Rattle.cj_slabs.specs.Slabs.{AreDescribed, AreSlabsOf, candidates_at, leaves_listed, roots_at, told_of_roots}
use Rattle.cj_slabs.proofs.CountLemmas.{counts_of_case, same_number}

-- the roots of all slots
pub all_roots : (case : PlainProblem) → roots_at case (slots_of case) ≡ roots_by_slot (is_candidate case) case
unfolding roots_by_slot
all_roots case = refl

pub told_is : (case : PlainProblem) (found : Sifted) → AreSlabsOf case (slots_of case) found → plain_leaves (leaves_listed found.slabs.items) ≡ told_leaves case
unfolding told_by roots_by_slot
told_is case found are = are.told

pub all_told : (case : PlainProblem) → told_of_roots case (roots_at case (slots_of case)) ≡ told_leaves case
unfolding told_by roots_by_slot
all_told case = refl

pub counts_are : (case : PlainProblem) (found : Sifted) → AreSlabsOf case (slots_of case) found → AreCounts case found.counts
counts_are case found are = counts_of_case case found.counts (subst (λ (rs : List PlainCell). AreCountsOf case rs found.counts) (all_roots case) are.counts)

pub all_leaves : (case : PlainProblem) → length (leaves_of_roots case (roots_at case (slots_of case))) ≡ length (list_candidates case)
unfolding list_of
all_leaves case = ap (λ (rs : List PlainCell). length (leaves_of_roots case rs)) (all_roots case) ∙ same_number (is_candidate case) case

-- ---- candidates

few_candidates : (case : PlainProblem) (slots : List ℕ) → length case.tracks ≤ 65_535 → candidates_at case slots ≤ length slots * 4_294_836_225
few_candidates case slots few =
    sum_by-le (λ slot. length (candidate_pairs case slot)) 4_294_836_225 slots (λ k d lt. candidates_few case (pairs_of (length case.tracks)) (get_or slots k d) (omega arith) few)

-- they are few enough to be counted
pub touching_is : (case : PlainProblem) (found : Sifted) → length case.tracks ≤ 65_535 → slot_count case.first case.last < 4_294_967_296 → AreSlabsOf case (slots_of case) found
    → found.touching ≡ candidate_count case
touching_is case found objects slots are =
    omega (arith, are.touching, few_candidates case (slots_of case) objects, length-range_with_len 0 (slot_count case.first case.last))

-- ---- what is measured

-- what is measured of the objects of a problem is so of its case
pub are_measured : (problem : Problem) (measured : Measured) → AreOfProblem problem measured → AreMeasured (plain_problem problem) measured
unfolding shells_of boxes_of
are_measured problem measured theirs = record { shells = theirs.shells; boxes = theirs.boxes; slots = theirs.slots }

-- what is no candidate is far
pub others_are_far : (problem : Problem) (measured : Measured) → AreOfProblem problem measured → OthersAreFar (plain_problem problem) (is_candidate (plain_problem problem))
unfolding is_candidate
others_are_far problem measured theirs =
    let case = plain_problem problem in
    others_far case (shells_of case) (boxes_in case) (in_shells case theirs.in_shells) (in_boxes case theirs.in_boxes)

-- ---- what exists

-- all pairs are of existing objects
pub all_exist : (n : ℕ) → All (λ pair. pair.1 < n) (pairs_of n)
all_exist n = All-from_each (λ (p : ℕ × ℕ). p.1 < n) (pairs_of n) (Each-weaker (IsPair n) (λ (p : ℕ × ℕ). p.1 < n) (λ p is. is.exists) (pairs_of n) (Each-pairs n))

-- each slot is below their number
pub each_below : (n : ℕ) → All (λ slot. slot < n) (range_with_len 0 n)
each_below n = λ k d lt. let size = length-range_with_len 0 n in omega (arith, lt, size, get_or-range_with_len 0 n k d (omega (arith, lt, size)))

-- ---- what holds of each root slot by slot holds of each

each_kept : {X Y : Type 0} (P : Y → Type 0) (f : X → List Y) (test : X → Bool) (xs : List X) → Each P (flat_map f (filter test xs)) → Each (λ x. Each P (cond (test x) (f x) [])) xs
each_kept P f test [] all = tt
each_kept {X} {Y} P f test (x ∷ xs) all = go (test x) (each_kept P f test xs) all
  where
    go : (c : Bool) → (Each P (flat_map f (filter test xs)) → Each (λ y. Each P (cond (test y) (f y) [])) xs) → Each P (flat_map f (cond c (x ∷ filter test xs) (filter test xs)))
        → Each P (cond c (f x) []) × Each (λ y. Each P (cond (test y) (f y) [])) xs
    go true rest h = let both = each_from_append P (f x) (flat_map f (filter test xs)) h in (both.0, rest both.1)
    go false rest h = (tt, rest h)

each_swapped : {X Y : Type 0} (Q : X → Y → Type 0) (xs : List X) (ys : List Y) → Each (λ x. Each (Q x) ys) xs → Each (λ y. Each (λ x. Q x y) xs) ys
each_swapped Q xs [] all = tt
each_swapped {X} {Y} Q xs (y ∷ ys) all = (
  Each-weaker (λ x. Q x y × Each (Q x) ys) (λ x. Q x y) (λ x h. h.0) xs all,
  each_swapped Q xs ys (Each-weaker (λ x. Q x y × Each (Q x) ys) (λ x. Each (Q x) ys) (λ x h. h.1) xs all),
)

each_root : (P : PlainCell → Type 0) (candidate : ℕ → ℕ → ℕ → Bool) (case : PlainProblem) → Each P (roots_by_slot candidate case) → Each P (roots_of candidate case)
unfolding roots_by_slot roots_of
each_root P candidate case all =
    let pairs : List (ℕ × ℕ) = pairs_of (length case.tracks) in
    let slots : List ℕ = slots_of case in
    let one = λ (slot : ℕ) (pair : ℕ × ℕ). cond (candidate pair.0 pair.1 slot) (roots_in case slot pair.0 pair.1) [] in
    let by_slot = each_from_flat_map P (λ slot. flat_map (λ pair. roots_in case slot pair.0 pair.1) (filter (λ pair. candidate pair.0 pair.1 slot) pairs)) slots all in
    let each : Each (λ slot. Each (λ pair. Each P (one slot pair)) pairs) slots =
    Each-weaker (λ slot. Each P (flat_map (λ pair. roots_in case slot pair.0 pair.1) (filter (λ pair. candidate pair.0 pair.1 slot) pairs))) (λ slot. Each (λ pair. Each P (one slot pair)) pairs)
    (λ slot h. each_kept P (λ pair. roots_in case slot pair.0 pair.1) (λ pair. candidate pair.0 pair.1 slot) pairs h) slots by_slot in
    Each-flat_map P (λ pair. flat_map (λ slot. one slot pair) slots) pairs
    (Each-weaker (λ pair. Each (λ slot. Each P (one slot pair)) slots) (λ pair. Each P (flat_map (λ slot. one slot pair) slots))
    (λ pair h. Each-flat_map P (λ slot. one slot pair) slots h) pairs (each_swapped (λ slot pair. Each P (one slot pair)) slots pairs each))

-- so the one-thread list says of its case what it has to
pub case_described : (case : PlainProblem) → AreDescribed case (roots_at case (slots_of case)) → DescribesCase case
case_described case are =
    let D = λ (r : PlainCell). Describe case r (leaves_of_root case r) in
    let by_slot : All D (roots_by_slot (is_candidate case) case) = subst (All D) (all_roots case) are in
    let all = roots_of (is_candidate case) case in
    list_described case all refl (All-from_each D all (each_root D (is_candidate case) case (each_from_All D (roots_by_slot (is_candidate case) case) by_slot)))

-- what holds anyway holds on success
pub on_ok : {X E : Type 0} (r : Result X E) (P : Type 0) → P → OnOk r P
on_ok (Ok x) P p = p
on_ok (Err e) P p = tt

-- and what is found says
pub on_ok_from : {X E : Type 0} (r : Result X E) (P : X → Type 0) (Q : Type 0) → ((x : X) → P x → Q) → IfOk r P → OnOk r Q
on_ok_from (Ok x) P Q from is = from x is
on_ok_from (Err e) P Q from is = tt
