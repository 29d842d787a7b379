-- Counts of roots and leaves: they add up, and slot by slot they are those of the one-thread list.
use Rattle.std.proofs.Common.{◌≡◌, ℕ, ◌+◌, Bool, cond, List, [], ◌∷◌, ◌++◌, length, refl, sym, ap, ◌∙◌, arith, append-nil, length-append}
use Rattle.std.specs.Prelude.{count_by, filter}
use Rattle.std.proofs.lemmas.List.{length-map}
use Rattle.std.proofs.lemmas.List.Concat.{flat_map-append}
use Rattle.std.proofs.lemmas.List.Sums.{length-filter, sum_by-append}
use Rattle.cj_interval.proofs.SumLemmas.{total, total-flat_map, total-filter}
use Rattle.cj_case.specs.PlainProblems.{PlainProblem}
use Rattle.cj_case.specs.Cells.{PlainCell}
use Rattle.cj_case.specs.declared.kind.Kind.{Kind}
use Rattle.cj_case.specs.declared.kind.Kind.TheVariants.{Far, Near, Undecided}
use Rattle.cj_case.specs.declared.leaf.Leaf.{Leaf}
use Rattle.cj_case.specs.Leaves.{PlainLeaf, plain_leaf, plain_leaves, same_kind}
use Rattle.cj_hermite.specs.Roots.{roots_of, roots_by_slot}
use Rattle.cj_hermite.proofs.RootSumLemmas.{same_roots}
use Rattle.cj_bezier.specs.Candidates.{is_candidate}
use Rattle.cj_bezier.specs.RootLeaves.{leaves_of_root, leaves_of_roots}
use Rattle.cj_cells.specs.Lists.{list_of, splits_of}
use Rattle.cj_cells.proofs.LeafLemmas.{list_split}
use Rattle.cj_cells.proofs.ListingLemmas.{same_count}
use Rattle.cj_slabs.specs.declared.leaf_counts.LeafCounts.{LeafCounts}
use Rattle.cj_slabs.specs.Counts.{count_of, AddCounts, AreCounts, AreCountsOf}

-- ---- counts as sums

length_total : {X : Type 0} (xs : List X) → length xs ≡ total (λ x. 1) xs
unfolding total
length_total [] = refl
length_total (x ∷ xs) = let rest = length_total xs in omega arith

count_total : {X : Type 0} (p : X → Bool) (xs : List X) → count_by p xs ≡ total (λ x. cond (p x) 1 0) xs
count_total p xs = sym (length-filter p xs) ∙ length_total (filter p xs) ∙ total-filter (λ x. 1) p xs

count-append : {X : Type 0} (p : X → Bool) (xs ys : List X) → count_by p (xs ++ ys) ≡ count_by p xs + count_by p ys
count-append p xs ys = sum_by-append (λ x. cond (p x) 1 0) xs ys

-- ---- slot by slot and pair by pair

-- whatever is summed over the leaves of the roots
pub same_leaves : (candidate : ℕ → ℕ → ℕ → Bool) (case : PlainProblem) (f : PlainLeaf → ℕ) → total f (leaves_of_roots case (roots_by_slot candidate case)) ≡ total f (leaves_of_roots case (roots_of candidate case))
unfolding leaves_of_roots
same_leaves candidate case f =
    total-flat_map f (leaves_of_root case) (roots_by_slot candidate case)
    ∙ same_roots candidate case (λ r. total f (leaves_of_root case r))
    ∙ sym (total-flat_map f (leaves_of_root case) (roots_of candidate case))

pub same_number : (candidate : ℕ → ℕ → ℕ → Bool) (case : PlainProblem) → length (leaves_of_roots case (roots_by_slot candidate case)) ≡ length (leaves_of_roots case (roots_of candidate case))
same_number candidate case =
    length_total (leaves_of_roots case (roots_by_slot candidate case)) ∙ same_leaves candidate case (λ s. 1) ∙ sym (length_total (leaves_of_roots case (roots_of candidate case)))

same_of_kind : (kind : Kind) (candidate : ℕ → ℕ → ℕ → Bool) (case : PlainProblem)
    → count_of kind (leaves_of_roots case (roots_by_slot candidate case)) ≡ count_of kind (leaves_of_roots case (roots_of candidate case))
same_of_kind kind candidate case =
    let is = λ (s : PlainLeaf). same_kind kind s.kind in
    count_total is (leaves_of_roots case (roots_by_slot candidate case)) ∙ same_leaves candidate case (λ s. cond (is s) 1 0)
    ∙ sym (count_total is (leaves_of_roots case (roots_of candidate case)))

-- the counts of the roots slot by slot are those of the case
pub counts_of_case : (case : PlainProblem) (counts : LeafCounts) → AreCountsOf case (roots_by_slot (is_candidate case) case) counts → AreCounts case counts
unfolding list_of
counts_of_case case counts are =
    let candidate = is_candidate case in
    let roots = are.roots ∙ same_count case in
    let leaves = are.leaves ∙ same_number candidate case in
    record {
      roots = roots;
      leaves = leaves;
      splits = leaves ∙ list_split case ∙ ap (λ (n : ℕ). n + splits_of case) (sym roots);
      far = are.far ∙ same_of_kind Far candidate case;
      near = are.near ∙ same_of_kind Near candidate case;
      undecided = are.undecided ∙ same_of_kind Undecided candidate case;
    }

-- ---- counts that add up

leaves_both : (case : PlainProblem) (rs ss : List PlainCell) → leaves_of_roots case (rs ++ ss) ≡ leaves_of_roots case rs ++ leaves_of_roots case ss
unfolding leaves_of_roots
leaves_both case rs ss = flat_map-append (leaves_of_root case) rs ss

pub number_both : (case : PlainProblem) (rs ss : List PlainCell) → length (leaves_of_roots case (rs ++ ss)) ≡ length (leaves_of_roots case rs) + length (leaves_of_roots case ss)
number_both case rs ss = ap length (leaves_both case rs ss) ∙ length-append (leaves_of_roots case rs) (leaves_of_roots case ss)

kind_both : (kind : Kind) (case : PlainProblem) (rs ss : List PlainCell) → count_of kind (leaves_of_roots case (rs ++ ss)) ≡ count_of kind (leaves_of_roots case rs) + count_of kind (leaves_of_roots case ss)
kind_both kind case rs ss =
    ap (count_of kind) (leaves_both case rs ss) ∙ count-append (λ (s : PlainLeaf). same_kind kind s.kind) (leaves_of_roots case rs) (leaves_of_roots case ss)

pub no_counts : (case : PlainProblem) (counts : LeafCounts) → AddCounts case [] counts counts
unfolding leaves_of_roots
no_counts case counts = record { roots = omega arith; leaves = omega arith; far = omega arith; near = omega arith; undecided = omega arith }

pub more_counts : (case : PlainProblem) (rs ss : List PlainCell) (old mid new : LeafCounts) → AddCounts case rs old mid → AddCounts case ss mid new → AddCounts case (rs ++ ss) old new
more_counts case rs ss old mid new some more = record {
  roots = omega (arith, some.roots, more.roots, length-append rs ss);
  leaves = omega (arith, some.leaves, more.leaves, number_both case rs ss);
  far = omega (arith, some.far, more.far, kind_both Far case rs ss);
  near = omega (arith, some.near, more.near, kind_both Near case rs ss);
  undecided = omega (arith, some.undecided, more.undecided, kind_both Undecided case rs ss);
}

-- those of one root, whose leaves these are
pub one_counted : (case : PlainProblem) (r : PlainCell) (leaves : List Leaf) (old new : LeafCounts) → plain_leaves leaves ≡ leaves_of_root case r → new.roots ≡ old.roots + 1
    → new.leaves ≡ old.leaves + length leaves → new.far ≡ old.far + count_of Far (plain_leaves leaves) → new.near ≡ old.near + count_of Near (plain_leaves leaves)
    → new.undecided ≡ old.undecided + count_of Undecided (plain_leaves leaves) → AddCounts case (r ∷ []) old new
unfolding leaves_of_roots
one_counted case r leaves old new same roots number far near undecided =
    let all : plain_leaves leaves ≡ leaves_of_roots case (r ∷ []) = same ∙ sym (append-nil (leaves_of_root case r)) in
    record {
      roots = roots;
      leaves = number ∙ ap (λ (n : ℕ). old.leaves + n) (sym (length-map leaves plain_leaf) ∙ ap length all);
      far = far ∙ ap (λ (ss : List PlainLeaf). old.far + count_of Far ss) all;
      near = near ∙ ap (λ (ss : List PlainLeaf). old.near + count_of Near ss) all;
      undecided = undecided ∙ ap (λ (ss : List PlainLeaf). old.undecided + count_of Undecided ss) all;
    }

pub none_counted : (case : PlainProblem) (counts : LeafCounts) → counts.leaves ≡ 0 → AreCountsOf case [] counts
unfolding leaves_of_roots
none_counted case counts none = record {
  roots = omega (arith, none, counts.some);
  leaves = none;
  far = omega (arith, none, counts.all);
  near = omega (arith, none, counts.all);
  undecided = omega (arith, none, counts.all);
}

-- those of some roots, and then those of others
pub counts_more : (case : PlainProblem) (rs ss : List PlainCell) (old new : LeafCounts) → AreCountsOf case rs old → AddCounts case ss old new → AreCountsOf case (rs ++ ss) new
counts_more case rs ss old new some more = record {
  roots = omega (arith, some.roots, more.roots, length-append rs ss);
  leaves = omega (arith, some.leaves, more.leaves, number_both case rs ss);
  far = omega (arith, some.far, more.far, kind_both Far case rs ss);
  near = omega (arith, some.near, more.near, kind_both Near case rs ss);
  undecided = omega (arith, some.undecided, more.undecided, kind_both Undecided case rs ss);
}

-- those of some roots and those of others
pub counts_both : (case : PlainProblem) (rs ss : List PlainCell) (some more all : LeafCounts) → AreCountsOf case rs some → AreCountsOf case ss more
    → all.roots ≡ some.roots + more.roots → all.leaves ≡ some.leaves + more.leaves → all.far ≡ some.far + more.far → all.near ≡ some.near + more.near
    → all.undecided ≡ some.undecided + more.undecided → AreCountsOf case (rs ++ ss) all
counts_both case rs ss some more all first second roots leaves far near undecided = record {
  roots = omega (arith, roots, first.roots, second.roots, length-append rs ss);
  leaves = omega (arith, leaves, first.leaves, second.leaves, number_both case rs ss);
  far = omega (arith, far, first.far, second.far, kind_both Far case rs ss);
  near = omega (arith, near, first.near, second.near, kind_both Near case rs ss);
  undecided = omega (arith, undecided, first.undecided, second.undecided, kind_both Undecided case rs ss);
}
