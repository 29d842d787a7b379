-- Flat cells: runs of ticks over which the distance of two interpolants is known to one millimetre.
use Rattle.std.specs.Prelude.{ℕ, ◌+◌, ◌*◌, Bool, nat_le, if◌then◌else◌, List, Option, Some, None}
use Rattle.cj_hermite.specs.Interpolant.{Curve}
use Rattle.cj_hermite.specs.Distance.{BAND}
use Rattle.cj_case.specs.declared.kind.Kind.{Kind}
use Rattle.cj_bezier.specs.Gaps.{PlainGap, gap_terms, hull_gap}
use Rattle.cj_bezier.specs.Halving.{leaves_between}
use Rattle.cj_case.specs.Leaves.{PlainLeaf}
use Rattle.cj_interval.specs.SquareRoots.{floor_root}
use Rattle.cj_bezier.specs.Squares.{least_square, greatest_square}

-- the square of the whole root of n and one millimetre more
abbrev pub raised : ℕ → ℕ
raised n = (floor_root n + BAND) * (floor_root n + BAND)

-- the squared distance lies between the square of a whole number of nm, which its least value shows, and that of one millimetre more
unfoldable pub is_flat : PlainGap → Bool
is_flat g = nat_le (greatest_square g) (raised (least_square g))

-- a run of ticks of two interpolants keeps this kind where it is flat; else it is halved
unfoldable pub flat_kind : Curve → Curve → Kind → ℕ → ℕ → Option Kind
flat_kind c d kind first last = if is_flat (gap_terms (hull_gap c d first last)) then Some kind else None

-- the flat cells of the ticks from first to last of a leaf whose objects have these interpolants
unfoldable pub flats_between : Curve → Curve → PlainLeaf → ℕ → ℕ → List PlainLeaf
flats_between c d s first last = leaves_between (flat_kind c d s.kind) s.a s.b first last
