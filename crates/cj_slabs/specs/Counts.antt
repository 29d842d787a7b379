-- How many leaves there are.
use Rattle.std.specs.Prelude.{◌≡◌, ℕ, ◌+◌, List, length, count_by}
use Rattle.cj_case.specs.PlainProblems.{PlainProblem}
use Rattle.cj_case.specs.Cells.{PlainCell}
use Rattle.cj_case.specs.declared.kind.Kind.{Kind}
use Rattle.cj_case.specs.declared.kind.Kind.TheVariants.{Far, Near, Undecided}
use Rattle.cj_case.specs.Leaves.{PlainLeaf, same_kind}
use Rattle.cj_hermite.specs.Roots.{roots_of}
use Rattle.cj_bezier.specs.Candidates.{is_candidate}
use Rattle.cj_bezier.specs.RootLeaves.{leaves_of_roots}
use Rattle.cj_cells.specs.Lists.{list_candidates, splits_of}
use Rattle.cj_slabs.specs.declared.leaf_counts.LeafCounts.{LeafCounts}

-- how many of some leaves are of a kind
abbrev pub count_of : Kind → List PlainLeaf → ℕ
count_of kind ss = count_by (λ s. same_kind kind s.kind) ss

-- they are the counts of these roots and of their leaves
pub record AreCountsOf (case : PlainProblem) (rs : List PlainCell) (counts : LeafCounts) : Type 0 where
  pub roots : counts.roots ≡ length rs
  pub leaves : counts.leaves ≡ length (leaves_of_roots case rs)
  pub far : counts.far ≡ count_of Far (leaves_of_roots case rs)
  pub near : counts.near ≡ count_of Near (leaves_of_roots case rs)
  pub undecided : counts.undecided ≡ count_of Undecided (leaves_of_roots case rs)

-- they are those before, and those of these roots
pub record AddCounts (case : PlainProblem) (rs : List PlainCell) (old new : LeafCounts) : Type 0 where
  pub roots : new.roots ≡ old.roots + length rs
  pub leaves : new.leaves ≡ old.leaves + length (leaves_of_roots case rs)
  pub far : new.far ≡ old.far + count_of Far (leaves_of_roots case rs)
  pub near : new.near ≡ old.near + count_of Near (leaves_of_roots case rs)
  pub undecided : new.undecided ≡ old.undecided + count_of Undecided (leaves_of_roots case rs)

-- they are the counts of a case: of the roots of its candidates, and of the one-thread list
pub record AreCounts (case : PlainProblem) (counts : LeafCounts) : Type 0 where
  pub roots : counts.roots ≡ length (roots_of (is_candidate case) case)
  pub leaves : counts.leaves ≡ length (list_candidates case)
  pub splits : counts.leaves ≡ counts.roots + splits_of case
  pub far : counts.far ≡ count_of Far (list_candidates case)
  pub near : counts.near ≡ count_of Near (list_candidates case)
  pub undecided : counts.undecided ≡ count_of Undecided (list_candidates case)
