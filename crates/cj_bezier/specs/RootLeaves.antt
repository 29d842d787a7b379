-- The leaves of roots: what the ticks of a root are closed as, and how its leaves describe it.
use Rattle.std.specs.Prelude.{ℕ, ◌≡◌, ◌≤◌, Bool, if◌then◌else◌, List, [], All, Any, Option, Some, None}
use Rattle.std.specs.List.{flat_map, list_all}
use Rattle.cj_hermite.specs.Interpolant.{Curve}
use Rattle.cj_case.specs.PlainProblems.{PlainProblem, threshold_of}
use Rattle.cj_hermite.specs.ObjectsAtTicks.{curve_at, OfObjectsAt}
use Rattle.cj_case.specs.Cells.{PlainCell}
use Rattle.cj_case.specs.declared.kind.Kind.{Kind}
use Rattle.cj_case.specs.declared.kind.Kind.TheVariants.{Far}
use Rattle.cj_case.specs.Leaves.{PlainLeaf, IsTickOf, same_kind}
use Rattle.cj_case.specs.Order.{AreInOrder}
use Rattle.cj_bezier.specs.Verdicts.{kind_of, cell_verdict, Holds}
use Rattle.cj_bezier.specs.Halving.{leaves_between}

-- what the ticks from first to last of two interpolants are closed as, by a threshold in nm; none where they are halved
unfoldable pub kind_between : Curve → Curve → ℕ → ℕ → ℕ → Option Kind
kind_between c d thr first last = kind_of (cell_verdict c d thr first last)

-- the same of two interpolants where there are two
abbrev pub kind_of_curves : PlainCell → ℕ → Option Curve → Option Curve → Option Kind
kind_of_curves r thr None d = None
kind_of_curves r thr (Some c) None = None
kind_of_curves r thr (Some c) (Some d) = kind_between c d thr r.first r.last

-- what the ticks of a cell are closed as
unfoldable pub kind_of_cell : PlainProblem → PlainCell → Option Kind
kind_of_cell case r = kind_of_curves r (threshold_of case r.a r.b) (curve_at case r.a r.first) (curve_at case r.b r.first)

-- the leaves of a root whose objects have these interpolants, by a threshold in nm
abbrev pub leaves_of_curves : PlainCell → ℕ → Option Curve → Option Curve → List PlainLeaf
leaves_of_curves r thr None d = []
leaves_of_curves r thr (Some c) None = []
leaves_of_curves r thr (Some c) (Some d) = leaves_between (kind_between c d thr) r.a r.b r.first r.last

-- the leaves of a root
unfoldable pub leaves_of_root : PlainProblem → PlainCell → List PlainLeaf
leaves_of_root case r = leaves_of_curves r (threshold_of case r.a r.b) (curve_at case r.a r.first) (curve_at case r.b r.first)

-- the leaves of several roots, in order
unfoldable pub leaves_of_roots : PlainProblem → List PlainCell → List PlainLeaf
leaves_of_roots case rs = flat_map (leaves_of_root case) rs

-- each leaf of a root is far
unfoldable pub is_far_throughout : PlainProblem → PlainCell → Bool
is_far_throughout case r = list_all (λ s. same_kind Far s.kind) (leaves_of_root case r)

-- the leaves of a root that are told: all of them, but none where each is far
unfoldable pub told_of_root : PlainProblem → PlainCell → List PlainLeaf
told_of_root case r = if is_far_throughout case r then [] else leaves_of_root case r

-- what a leaf says is so at each of its ticks: there both its objects have a state, and their distance is of its kind
abbrev pub IsTrueThroughout : PlainProblem → PlainLeaf → Type 0
IsTrueThroughout case s = (m : ℕ) → s.first ≤ m → m ≤ s.last → OfObjectsAt case s.a s.b m (λ c d. Holds s.kind c d (threshold_of case s.a s.b) m)

-- a leaf of the root's pair, whose ticks are the root's
pub record IsPartOf (r : PlainCell) (s : PlainLeaf) : Type 0 where
  pub first_object : s.a ≡ r.a
  pub second_object : s.b ≡ r.b
  pub from : r.first ≤ s.first
  pub some : s.first ≤ s.last
  pub to : s.last ≤ r.last

-- such leaves in order, which hold each tick of the root and are true throughout
pub record Describe (case : PlainProblem) (r : PlainCell) (ss : List PlainLeaf) : Type 0 where
  pub parts : All (IsPartOf r) ss
  pub holds : All (IsTrueThroughout case) ss
  pub ordered : AreInOrder ss
  pub complete : (m : ℕ) → r.first ≤ m → m ≤ r.last → Any (IsTickOf r.a r.b m) ss
