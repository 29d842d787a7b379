-- The one-thread list pair by pair: what of it is a pair's, in which order, and how it grows object by object.
use Rattle.std.proofs.Common.{◌≡◌, ℕ, zero, suc, ◌+◌, ◌-◌, ◌<◌, ◌≤◌, Bool, true, false, cond, List, [], ◌∷◌, ◌++◌, map, filter, length, get_or, take, Option, Some, None, refl, sym, subst, ap, ◌∙◌, inl, inr, arith, append_assoc, append-nil, length-append}
use Rattle.std.specs.Prelude.{◌==◌}
use Rattle.std.specs.Cmp.{unsigned_Decides}
use Rattle.std.specs.List.{flat_map, range_with_len}
use Rattle.std.proofs.lemmas.Bool.{cases_eq}
use Rattle.std.proofs.lemmas.List.{map_push, take_more}
use Rattle.std.proofs.lemmas.List.Concat.{flat_map-append}
use Rattle.std.proofs.lemmas.List.Elements.{filter-append}
use Rattle.std.proofs.lemmas.List.Folds.{flat_map-map}
use Rattle.cj_case.specs.declared.kind.Kind.{Kind}
use Rattle.cj_case.specs.Cells.{PlainCell}
use Rattle.cj_case.specs.declared.leaf.Leaf.{Leaf}
use Rattle.cj_case.specs.Leaves.{PlainLeaf, plain_leaf, plain_leaves}
use Rattle.cj_case.specs.Pairs.{pairs_of}
use Rattle.cj_case.specs.PlainProblems.{PlainProblem, threshold_of}
use Rattle.cj_case.specs.Slots.{slot_first, slot_last}
use Rattle.cj_hermite.specs.CommonRuns.{Run, runs_between}
use Rattle.cj_hermite.specs.Interpolant.{Curve}
use Rattle.cj_hermite.specs.ObjectsAtTicks.{curve_at}
use Rattle.cj_hermite.specs.Roots.{numbers_at, root_of_run, roots_between, roots_in, roots_of, slots_of}
use Rattle.cj_hermite.proofs.RootLemmas.{Each-admitted}
use Rattle.cj_bezier.specs.Halving.{closed_or, leaves_between, leaves_within, middle}
use Rattle.cj_bezier.specs.RootLeaves.{kind_between, leaves_of_curves, leaves_of_root, leaves_of_roots}
use Rattle.cj_cells.specs.Lists.{list_of}
use Rattle.cj_again.specs.PairLeaves.{AreByPair, IsPairUpTo, leaves_of_object, leaves_of_pair, leaves_to, renamed, roots_of_pair, with_first, with_pair, with_second}
use Rattle.cj_again.proofs.RowLemmas.{other_number}
use Rattle.cj_case.proofs.PairLemmas.{IsPair, PairBefore, Each-pairs, Ordered-pairs, pairs_from}
use Rattle.cj_interval.proofs.ListLemmas.{Each, Ordered, Each-always, Each-append, Each-flat_map, Each-taken, Each-weaker, Ordered-flat_map, AllPairs-from_ordered, flat_map_alike, flat_map-flat_map}
use Rattle.cj_interval.proofs.RangeLemmas.{flat_map-range_more, range_cut}

-- ---- a leaf of a pair

-- the leaf is of these objects
pub record IsOf (a b : ℕ) (s : PlainLeaf) : Type 0 where
  pub first : s.a ≡ a
  pub second : s.b ≡ b

within_of : (judge : ℕ → ℕ → Option Kind) (a b n first last : ℕ) → Each (IsOf a b) (leaves_within judge a b n first last)
unfolding leaves_within
within_of judge a b zero first last = (record { first = refl; second = refl }, tt)
within_of judge a b (suc n) first last =
    go (judge first last) (leaves_within judge a b n first (middle first last)) (leaves_within judge a b n (middle first last + 1) last)
    (within_of judge a b n first (middle first last)) (within_of judge a b n (middle first last + 1) last)
  where
    go : (o : Option Kind) (xs ys : List PlainLeaf) → Each (IsOf a b) xs → Each (IsOf a b) ys → Each (IsOf a b) (closed_or a b first last o (xs ++ ys))
    go (Some kind) xs ys left right = (record { first = refl; second = refl }, tt)
    go None xs ys left right = Each-append (IsOf a b) xs ys left right

curves_of : (r : PlainCell) (thr : ℕ) (c d : Option Curve) → Each (IsOf r.a r.b) (leaves_of_curves r thr c d)
unfolding leaves_between
curves_of r thr None d = tt
curves_of r thr (Some c) None = tt
curves_of r thr (Some c) (Some d) = within_of (kind_between c d thr) r.a r.b (r.last - r.first) r.first r.last

pub root_of : (case : PlainProblem) (r : PlainCell) → Each (IsOf r.a r.b) (leaves_of_root case r)
unfolding leaves_of_root
root_of case r = curves_of r (threshold_of case r.a r.b) (curve_at case r.a r.first) (curve_at case r.b r.first)

-- what holds of the pair of each candidate holds of the pair of each leaf
pub leaves_admitted : (P : ℕ → ℕ → Type 0) (candidate : ℕ → ℕ → ℕ → Bool) (case : PlainProblem) → ((a b slot : ℕ) → candidate a b slot ≡ true → P a b) →
    Each (λ s. P s.a s.b) (list_of candidate case)
unfolding list_of leaves_of_roots
leaves_admitted P candidate case law =
    Each-flat_map (λ s. P s.a s.b) (leaves_of_root case) (roots_of candidate case)
    (Each-weaker (λ r. P r.a r.b) (λ r. Each (λ s. P s.a s.b) (leaves_of_root case r))
    (λ r is. Each-weaker (IsOf r.a r.b) (λ s. P s.a s.b)
    (λ s of. subst (λ (x : ℕ). P x s.b) (sym of.first) (subst (λ (y : ℕ). P r.a y) (sym of.second) is)) (leaves_of_root case r) (root_of case r))
    (roots_of candidate case) (Each-admitted P candidate case law))

-- a root is of these objects
pub record IsRootFor (a b : ℕ) (r : PlainCell) : Type 0 where
  pub first : r.a ≡ a
  pub second : r.b ≡ b

runs_for : (a b : ℕ) (runs : List Run) → Each (IsRootFor a b) (map (root_of_run a b) runs)
runs_for a b [] = tt
runs_for a b (r ∷ runs) = (record { first = refl; second = refl }, runs_for a b runs)

slot_for : (case : PlainProblem) (slot a b : ℕ) → Each (IsRootFor a b) (roots_in case slot a b)
unfolding roots_between
slot_for case slot a b = runs_for a b (runs_between (numbers_at case a b) (slot_first case.first slot) (slot_last case.first case.last slot))

pub roots_for : (candidate : ℕ → ℕ → ℕ → Bool) (case : PlainProblem) (a b : ℕ) → Each (IsRootFor a b) (roots_of_pair candidate case (a, b))
unfolding roots_of_pair
roots_for candidate case a b =
    Each-flat_map (IsRootFor a b) (λ slot. cond (candidate a b slot) (roots_in case slot a b) []) (slots_of case)
    (Each-always (λ slot. Each (IsRootFor a b) (cond (candidate a b slot) (roots_in case slot a b) []))
    (λ slot. Each-taken (IsRootFor a b) (candidate a b slot) (roots_in case slot a b) (slot_for case slot a b)) (slots_of case))

leaves_for : (case : PlainProblem) (a b : ℕ) (rs : List PlainCell) → Each (IsRootFor a b) rs → Each (IsOf a b) (flat_map (leaves_of_root case) rs)
leaves_for case a b [] are = tt
leaves_for case a b (r ∷ rs) are =
    let is = are.0 in
    Each-append (IsOf a b) (leaves_of_root case r) (flat_map (leaves_of_root case) rs)
    (Each-weaker (IsOf r.a r.b) (IsOf a b) (λ s of. record { first = of.first ∙ is.first; second = of.second ∙ is.second }) (leaves_of_root case r) (root_of case r))
    (leaves_for case a b rs are.1)

pub pair_of : (candidate : ℕ → ℕ → ℕ → Bool) (case : PlainProblem) (a b : ℕ) → Each (IsOf a b) (leaves_of_pair candidate case (a, b))
unfolding leaves_of_pair leaves_of_roots
pair_of candidate case a b = leaves_for case a b (roots_of_pair candidate case (a, b)) (roots_for candidate case a b)

-- a leaf of a pair keeps its numbers
pub renamed_same : (a b : ℕ) (ss : List PlainLeaf) → Each (IsOf a b) ss → map (renamed (a, b)) ss ≡ ss
renamed_same a b [] are = refl
renamed_same a b (s ∷ ss) are =
    let is = are.0 in
    let rest = renamed_same a b ss are.1 in
    let here : renamed (a, b) s ≡ s = λ i. record { a = sym is.first i; b = sym is.second i; first = s.first; last = s.last; kind = s.kind } in
    λ i. here i ∷ rest i

-- one leaf more under the numbers of a pair
pub renamed_more : (pair : ℕ × ℕ) (old done : List PlainLeaf) (part : List Leaf) (k : ℕ) (leaf : Leaf) → k < length part → leaf ≡ get_or part k leaf →
    done ≡ old ++ map (renamed pair) (plain_leaves (take k part)) → done ++ renamed pair (plain_leaf leaf) ∷ [] ≡ old ++ map (renamed pair) (plain_leaves (take (k + 1) part))
renamed_more pair old done part k leaf lt is so_far =
    let more : plain_leaves (take (k + 1) part) ≡ plain_leaves (take k part) ++ plain_leaf leaf ∷ [] =
    ap plain_leaves (take_more part k leaf lt ∙ ap (λ (x : Leaf). take k part ++ x ∷ []) (sym is)) ∙ map_push plain_leaf (take k part) leaf in
    ap (λ ss. ss ++ renamed pair (plain_leaf leaf) ∷ []) so_far
    ∙ append_assoc old (map (renamed pair) (plain_leaves (take k part))) (renamed pair (plain_leaf leaf) ∷ [])
    ∙ ap (λ ss. old ++ ss) (sym (ap (map (renamed pair)) more ∙ map_push (renamed pair) (plain_leaves (take k part)) (plain_leaf leaf)))

-- ---- the list pair by pair

pub list_by_pairs : (candidate : ℕ → ℕ → ℕ → Bool) (case : PlainProblem) → list_of candidate case ≡ flat_map (leaves_of_pair candidate case) (pairs_of (length case.tracks))
unfolding list_of leaves_of_roots roots_of leaves_of_pair roots_of_pair
list_by_pairs candidate case =
    flat_map-flat_map (leaves_of_root case) (λ pair. flat_map (λ slot. cond (candidate pair.0 pair.1 slot) (roots_in case slot pair.0 pair.1) []) (slots_of case)) (pairs_of (length case.tracks))

pub list_by_objects : (candidate : ℕ → ℕ → ℕ → Bool) (case : PlainProblem) → list_of candidate case ≡ flat_map (leaves_of_object candidate case) (range_with_len 0 (length case.tracks))
unfolding leaves_to
list_by_objects candidate case =
    let n = length case.tracks in
    list_by_pairs candidate case
    ∙ flat_map-flat_map (leaves_of_pair candidate case) (pairs_from n) (range_with_len 0 n)
    ∙ flat_map_alike (λ a. flat_map (leaves_of_pair candidate case) (pairs_from n a)) (leaves_of_object candidate case) (range_with_len 0 n)
    (Each-always (λ a. flat_map (leaves_of_pair candidate case) (pairs_from n a) ≡ leaves_of_object candidate case a)
    (λ a. flat_map-map (leaves_of_pair candidate case) (λ (b : ℕ). let p : ℕ × ℕ = (a, b) in p) (range_with_len (a + 1) (n - (a + 1)))) (range_with_len 0 n))

-- ---- its order

one_pair : (a b : ℕ) (ss : List PlainLeaf) → Each (IsOf a b) ss → Ordered IsPairUpTo ss
one_pair a b [] are = tt
one_pair a b (s ∷ ss) are =
    let is = are.0 in (
      Each-weaker (IsOf a b) (IsPairUpTo s) (λ t of. record { first_object = omega (arith, is.first, of.first); second_object = λ _. omega (arith, is.second, of.second) }) ss are.1,
      one_pair a b ss are.1,
    )

across_pairs : (p q : ℕ × ℕ) (ss ts : List PlainLeaf) → Each (IsOf p.0 p.1) ss → Each (IsOf q.0 q.1) ts → PairBefore p q → Each (λ s. Each (IsPairUpTo s) ts) ss
across_pairs p q ss ts of_p of_q before =
    Each-weaker (IsOf p.0 p.1) (λ s. Each (IsPairUpTo s) ts)
    (λ s in_p. Each-weaker (IsOf q.0 q.1) (IsPairUpTo s)
    (λ t in_q. record {
      first_object = omega (arith, in_p.first, in_q.first, before.first_object);
      second_object = λ e. omega (arith, in_p.second, in_q.second, before.second_object (omega (arith, e, in_p.first, in_q.first)));
    }) ts of_q) ss of_p

pub list_ordered : (candidate : ℕ → ℕ → ℕ → Bool) (case : PlainProblem) → AreByPair (list_of candidate case)
list_ordered candidate case =
    let n = length case.tracks in
    rw (list_by_pairs candidate case)
    (AllPairs-from_ordered IsPairUpTo (flat_map (leaves_of_pair candidate case) (pairs_of n))
    (Ordered-flat_map IsPairUpTo PairBefore (IsPair n) (leaves_of_pair candidate case)
    (λ p _. one_pair p.0 p.1 (leaves_of_pair candidate case p) (pair_of candidate case p.0 p.1))
    (λ p q _ _ before. across_pairs p q (leaves_of_pair candidate case p) (leaves_of_pair candidate case q) (pair_of candidate case p.0 p.1) (pair_of candidate case q.0 q.1) before)
    (pairs_of n) (Each-pairs n) (Ordered-pairs n)))

-- ---- what of it is a pair's

filter_flat : {X : Type 0} (test : PlainLeaf → Bool) (f : X → List PlainLeaf) (xs : List X) → filter test (flat_map f xs) ≡ flat_map (λ x. filter test (f x)) xs
filter_flat test f [] = refl
filter_flat test f (x ∷ xs) = filter-append test (f x) (flat_map f xs) ∙ ap (λ ss. filter test (f x) ++ ss) (filter_flat test f xs)

-- a test that all pass or none
all_or_none : (test : PlainLeaf → Bool) (c : Bool) (ss : List PlainLeaf) → Each (λ s. test s ≡ c) ss → filter test ss ≡ cond c ss []
all_or_none test true [] are = refl
all_or_none test false [] are = refl
all_or_none test true (s ∷ ss) are = rw are.0 (ap (λ ts. s ∷ ts) (all_or_none test true ss are.1))
all_or_none test false (s ∷ ss) are = rw are.0 (all_or_none test false ss are.1)

-- of lists over a range the one at a number
none_taken : (f : ℕ → List PlainLeaf) (k from n : ℕ) → k < from → flat_map (λ x. cond (x == k) (f x) []) (range_with_len from n) ≡ []
none_taken f k from zero lt = refl
none_taken f k from (suc n) lt =
    let other : (from == k) ≡ false = other_number from k (λ same. omega (arith, same, lt)) in
    rw other (none_taken f k (from + 1) n (omega arith))

one_taken : (f : ℕ → List PlainLeaf) (k from n : ℕ) → from ≤ k → k < from + n → flat_map (λ x. cond (x == k) (f x) []) (range_with_len from n) ≡ f k
one_taken f k from zero low high = absurd (omega arith)
one_taken f k from (suc n) low high = go (from == k) refl (λ le. one_taken f k (from + 1) n le (omega arith))
  where
    go : (c : Bool) → (from == k) ≡ c → (from + 1 ≤ k → flat_map (λ x. cond (x == k) (f x) []) (range_with_len (from + 1) n) ≡ f k)
        → cond c (f from) [] ++ flat_map (λ x. cond (x == k) (f x) []) (range_with_len (from + 1) n) ≡ f k
    go true e rest =
        let same : from ≡ k = (unsigned_Decides from k).0 e in
        ap (λ ss. f from ++ ss) (none_taken f k (from + 1) n (omega (arith, same))) ∙ append-nil (f from) ∙ ap f same
    go false e rest = elim (cases_eq from k) [
      | inl same ↦ let yes = (unsigned_Decides from k).1 same in absurd cc
      | inr other ↦ rest (omega arith)
    ]

-- all leaves of a row have one first object
row_firsts : (candidate : ℕ → ℕ → ℕ → Bool) (case : PlainProblem) (x a : ℕ) → Each (λ s. (s.a == a) ≡ (x == a)) (leaves_of_object candidate case x)
unfolding leaves_to
row_firsts candidate case x a =
    Each-flat_map (λ s. (s.a == a) ≡ (x == a)) (λ other. leaves_of_pair candidate case (x, other)) (range_with_len (x + 1) (length case.tracks - (x + 1)))
    (Each-always (λ other. Each (λ s. (s.a == a) ≡ (x == a)) (leaves_of_pair candidate case (x, other)))
    (λ other. Each-weaker (IsOf x other) (λ s. (s.a == a) ≡ (x == a)) (λ s of. ap (λ (k : ℕ). k == a) of.first) (leaves_of_pair candidate case (x, other)) (pair_of candidate case x other))
    (range_with_len (x + 1) (length case.tracks - (x + 1))))

part_seconds : (candidate : ℕ → ℕ → ℕ → Bool) (case : PlainProblem) (a x b : ℕ) → Each (λ s. (s.b == b) ≡ (x == b)) (leaves_of_pair candidate case (a, x))
part_seconds candidate case a x b =
    Each-weaker (IsOf a x) (λ s. (s.b == b) ≡ (x == b)) (λ s of. ap (λ (k : ℕ). k == b) of.second) (leaves_of_pair candidate case (a, x)) (pair_of candidate case a x)

object_taken : (candidate : ℕ → ℕ → ℕ → Bool) (case : PlainProblem) (a : ℕ) → a < length case.tracks → with_first a (list_of candidate case) ≡ leaves_of_object candidate case a
object_taken candidate case a lt =
    let n = length case.tracks in
    ap (with_first a) (list_by_objects candidate case)
    ∙ filter_flat (λ s. s.a == a) (leaves_of_object candidate case) (range_with_len 0 n)
    ∙ flat_map_alike (λ x. with_first a (leaves_of_object candidate case x)) (λ x. cond (x == a) (leaves_of_object candidate case x) []) (range_with_len 0 n)
    (Each-always (λ x. with_first a (leaves_of_object candidate case x) ≡ cond (x == a) (leaves_of_object candidate case x) [])
    (λ x. all_or_none (λ s. s.a == a) (x == a) (leaves_of_object candidate case x) (row_firsts candidate case x a)) (range_with_len 0 n))
    ∙ one_taken (leaves_of_object candidate case) a 0 n (omega arith) (omega arith)

pub pair_taken : (candidate : ℕ → ℕ → ℕ → Bool) (case : PlainProblem) (a b : ℕ) → a < b → b < length case.tracks → with_pair (a, b) (list_of candidate case) ≡ leaves_of_pair candidate case (a, b)
unfolding leaves_to
pair_taken candidate case a b ordered exists =
    let count = length case.tracks - (a + 1) in
    let row = range_with_len (a + 1) count in
    ap (with_second b) (object_taken candidate case a (omega arith))
    ∙ filter_flat (λ s. s.b == b) (λ x. leaves_of_pair candidate case (a, x)) row
    ∙ flat_map_alike (λ x. with_second b (leaves_of_pair candidate case (a, x))) (λ x. cond (x == b) (leaves_of_pair candidate case (a, x)) []) row
    (Each-always (λ x. with_second b (leaves_of_pair candidate case (a, x)) ≡ cond (x == b) (leaves_of_pair candidate case (a, x)) [])
    (λ x. all_or_none (λ s. s.b == b) (x == b) (leaves_of_pair candidate case (a, x)) (part_seconds candidate case a x b)) row)
    ∙ one_taken (λ x. leaves_of_pair candidate case (a, x)) b (a + 1) count (omega arith) (omega arith)

-- ---- pair by pair, and object by object

-- no pair of an object yet, one more, and all
pub leaves_to_none : (candidate : ℕ → ℕ → ℕ → Bool) (case : PlainProblem) (a : ℕ) → leaves_to candidate case a (a + 1) ≡ []
unfolding leaves_to
leaves_to_none candidate case a = let none : a + 1 - (a + 1) ≡ 0 = omega arith in rw none refl

pub leaves_to_more : (candidate : ℕ → ℕ → ℕ → Bool) (case : PlainProblem) (a b : ℕ) → a < b → leaves_to candidate case a (b + 1) ≡ leaves_to candidate case a b ++ leaves_of_pair candidate case (a, b)
unfolding leaves_to
leaves_to_more candidate case a b lt =
    let count : b + 1 - (a + 1) ≡ b - (a + 1) + 1 = omega arith in
    ap (λ (n : ℕ). flat_map (λ other. leaves_of_pair candidate case (a, other)) (range_with_len (a + 1) n)) count
    ∙ flat_map-range_more (λ other. leaves_of_pair candidate case (a, other)) (a + 1) (b - (a + 1)) b (omega arith)

-- how many there are at most
range_part : {A : Type 0} (f : ℕ → List A) (from k n : ℕ) → k ≤ n → length (flat_map f (range_with_len from k)) ≤ length (flat_map f (range_with_len from n))
range_part f from k n le =
    let cut = range_cut from k (n - k) in
    let all : k + (n - k) ≡ n = omega arith in
    let apart = ap (λ (m : ℕ). length (flat_map f (range_with_len from m))) (sym all) ∙ ap (λ ks. length (flat_map f ks)) cut ∙ ap length (flat_map-append f (range_with_len from k) (range_with_len (from + k) (n - k))) in
    omega (arith, apart, length-append (flat_map f (range_with_len from k)) (flat_map f (range_with_len (from + k) (n - k))))

row_within : (candidate : ℕ → ℕ → ℕ → Bool) (case : PlainProblem) (a b n : ℕ) → b ≤ n → length (leaves_to candidate case a b) ≤ length (leaves_to candidate case a n)
unfolding leaves_to
row_within candidate case a b n le = range_part (λ other. leaves_of_pair candidate case (a, other)) (a + 1) (b - (a + 1)) (n - (a + 1)) (omega arith)

pub part_of_row : (candidate : ℕ → ℕ → ℕ → Bool) (case : PlainProblem) (a b : ℕ) → a < b → b < length case.tracks →
    length (leaves_to candidate case a b) + length (leaves_of_pair candidate case (a, b)) ≤ length (leaves_of_object candidate case a)
part_of_row candidate case a b lt exists =
    let more = ap length (leaves_to_more candidate case a b lt) in
    let within = row_within candidate case a (b + 1) (length case.tracks) (omega arith) in
    omega (arith, more, within, length-append (leaves_to candidate case a b) (leaves_of_pair candidate case (a, b)))

-- the rows of the first objects
abbrev pub rows_to : (ℕ → ℕ → ℕ → Bool) → PlainProblem → ℕ → List PlainLeaf
rows_to candidate case a = flat_map (leaves_of_object candidate case) (range_with_len 0 a)

pub rows_to_more : (candidate : ℕ → ℕ → ℕ → Bool) (case : PlainProblem) (a : ℕ) → rows_to candidate case (a + 1) ≡ rows_to candidate case a ++ leaves_of_object candidate case a
rows_to_more candidate case a = flat_map-range_more (leaves_of_object candidate case) 0 a a (omega arith)

pub row_of_list : (candidate : ℕ → ℕ → ℕ → Bool) (case : PlainProblem) (a : ℕ) → a < length case.tracks →
    length (rows_to candidate case a) + length (leaves_of_object candidate case a) ≤ length (list_of candidate case)
row_of_list candidate case a lt =
    let more = ap length (rows_to_more candidate case a) in
    let within = range_part (leaves_of_object candidate case) 0 (a + 1) (length case.tracks) (omega arith) in
    let all = ap length (list_by_objects candidate case) in
    omega (arith, more, within, all, length-append (rows_to candidate case a) (leaves_of_object candidate case a))
