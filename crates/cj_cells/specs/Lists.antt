-- The one-thread list: the leaves of all roots, in order.
use Rattle.std.specs.Prelude.{ℕ, ◌+◌, ◌<◌, ◌≤◌, Bool, not, List, Option, Some, None, filter, length}
use Rattle.std.specs.List.{sum_by}
use Rattle.cj_hermite.specs.Interpolant.{Curve}
use Rattle.cj_case.specs.PlainProblems.{PlainProblem, threshold_of}
use Rattle.cj_hermite.specs.ObjectsAtTicks.{curve_at}
use Rattle.cj_case.specs.Cells.{PlainCell}
use Rattle.cj_hermite.specs.Roots.{roots_of}
use Rattle.cj_case.specs.declared.kind.Kind.TheVariants.{Far}
use Rattle.cj_case.specs.Leaves.{PlainLeaf, same_kind}
use Rattle.cj_bezier.specs.Halving.{splits_between}
use Rattle.cj_bezier.specs.Candidates.{is_candidate, is_candidate_anew}
use Rattle.cj_bezier.specs.RootLeaves.{kind_between, leaves_of_root, leaves_of_roots, IsTrueThroughout}

-- the one-thread list of the candidates
unfoldable pub list_of : (ℕ → ℕ → ℕ → Bool) → PlainProblem → List PlainLeaf
list_of candidate case = leaves_of_roots case (roots_of candidate case)

-- a leaf within the window, of two objects in order, that is true throughout
pub record IsSound (case : PlainProblem) (s : PlainLeaf) : Type 0 where
  pub ordered : s.a < s.b
  pub from : case.first ≤ s.first
  pub some : s.first ≤ s.last
  pub to : s.last ≤ case.last
  pub holds : IsTrueThroughout case s

-- the one-thread list of a case
abbrev pub list_candidates : PlainProblem → List PlainLeaf
list_candidates case = list_of (is_candidate case) case

-- the near and undecided leaves of a case, in order of pair and time
unfoldable pub marked_leaves : PlainProblem → List PlainLeaf
marked_leaves case = filter (λ s. not (same_kind Far s.kind)) (list_candidates case)

-- how often a root is halved whose objects have these interpolants
abbrev pub splits_of_curves : PlainCell → ℕ → Option Curve → Option Curve → ℕ
splits_of_curves r thr None d = 0
splits_of_curves r thr (Some c) None = 0
splits_of_curves r thr (Some c) (Some d) = splits_between (kind_between c d thr) r.first r.last

-- how often a root is halved
unfoldable pub splits_of_root : PlainProblem → PlainCell → ℕ
splits_of_root case r = splits_of_curves r (threshold_of case r.a r.b) (curve_at case r.a r.first) (curve_at case r.b r.first)

-- how often the roots of a case are halved
unfoldable pub splits_of : PlainProblem → ℕ
splits_of case = sum_by (splits_of_root case) (roots_of (is_candidate case) case)

-- how often a root and its parts are looked at: once for each leaf, and once for each halving
abbrev pub looks_of_root : PlainProblem → PlainCell → ℕ
looks_of_root case r = length (leaves_of_root case r) + splits_of_root case r

-- how often several roots and their parts are
abbrev pub looks_of_roots : PlainProblem → List PlainCell → ℕ
looks_of_roots case rs = sum_by (looks_of_root case) rs

-- how often the roots of the candidates are that are not unchanged
unfoldable pub looks_anew : PlainProblem → PlainProblem → ℕ
looks_anew old new = looks_of_roots new (roots_of (is_candidate_anew old new) new)
