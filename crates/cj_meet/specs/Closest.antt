-- The closest approach of an encounter: the earliest of the ticks with the least bound on the squared distance, among the ends of flat cells.
use Rattle.std.specs.Prelude.{◌≡◌, ℕ, ◌+◌, ◌-◌, ◌*◌, ◌≤◌, ◌==◌, ◌&&◌, ◌||◌, true, nat_lt, if◌then◌else◌, List, [], ◌∷◌, All, Any, Option, Some, None, option_map, ◌≤ℤ◌}
use Rattle.std.specs.List.{flat_map, fold}
use Rattle.cj_hermite.specs.Interpolant.{Curve}
use Rattle.cj_hermite.specs.Distance.{BAND, IsWithinAt, square_bound, square_distance}
use Rattle.cj_case.specs.PlainProblems.{PlainProblem}
use Rattle.cj_hermite.specs.ObjectsAtTicks.{curve_at, OfObjectsAt}
use Rattle.cj_hermite.specs.Roots.{KeepPieces}
use Rattle.cj_case.specs.declared.encounter.Closest.{Closest}
use Rattle.cj_bezier.specs.Gaps.{gap_high, gap_terms, hull_gap}
use Rattle.cj_case.specs.Leaves.{PlainLeaf, IsTickOf}
use Rattle.cj_bezier.specs.Squares.{from_zero}
use Rattle.cj_meet.specs.Encounters.{first_object, second_object}
use Rattle.cj_interval.specs.SquareRoots.{ceil_root}
use Rattle.cj_meet.specs.Flat.{flats_between, is_flat}

-- a tick, and a bound on the squared distance there, in nm²
pub record PlainApproach : Type 0 where
  pub tick : ℕ
  pub square : ℕ

-- the bound at tick m of two interpolants: the upper end of the first coefficient of the gap over that one tick
unfoldable pub upper : Curve → Curve → ℕ → ℕ
upper c d m = from_zero (gap_high (hull_gap c d m m) 0)

abbrev pub approach_at : Curve → Curve → ℕ → PlainApproach
approach_at c d m = record { tick = m; square = upper c d m }

-- the first and the last tick of a flat cell
abbrev pub ends_of : Curve → Curve → PlainLeaf → List PlainApproach
ends_of c d f = approach_at c d f.first ∷ approach_at c d f.last ∷ []

-- the ends of the flat cells of a part of a leaf whose objects have these interpolants
abbrev pub ends_between : Curve → Curve → PlainLeaf → ℕ → ℕ → List PlainApproach
ends_between c d s first last = flat_map (ends_of c d) (flats_between c d s first last)

-- the same of a whole leaf, where its objects have interpolants
abbrev pub ends_of_curves : PlainLeaf → Option Curve → Option Curve → List PlainApproach
ends_of_curves s None d = []
ends_of_curves s (Some c) None = []
ends_of_curves s (Some c) (Some d) = ends_between c d s s.first s.last

unfoldable pub ends_within : PlainProblem → PlainLeaf → List PlainApproach
ends_within case s = ends_of_curves s (curve_at case s.a s.first) (curve_at case s.b s.first)

-- the ends of the flat cells of the leaves of an encounter, in order
unfoldable pub ends_in : PlainProblem → List PlainLeaf → List PlainApproach
ends_in case ss = flat_map (ends_within case) ss

-- the closest approach of the leaves of an encounter: the earliest of the ends with the least bound, and the least whole number of
-- nm whose square is at least that bound
pub record IsClosest (case : PlainProblem) (ss : List PlainLeaf) (closest : Closest) : Type 0 where
  pub square : ℕ
  pub end : Any (λ p. p ≡ record { tick = closest.tick.micros; square = square }) (ends_in case ss)
  pub least : All (λ p. square ≤ p.square) (ends_in case ss)
  pub earliest : All (λ p. p.square ≡ square → closest.tick.micros ≤ p.tick) (ends_in case ss)
  pub high : square ≤ closest.high * closest.high
  pub least_high : (r : ℕ) → square ≤ r * r → closest.high ≤ r

-- ---- the same as a function

-- the one with the lesser bound, or the earlier of equals
abbrev pub nearer : PlainApproach → PlainApproach → PlainApproach
nearer p q = if nat_lt q.square p.square || ((q.square == p.square) && nat_lt q.tick p.tick) then q else p

abbrev pub nearest : List PlainApproach → Option PlainApproach
nearest [] = None
nearest (p ∷ ps) = Some (fold nearer p ps)

pub record PlainClosest : Type 0 where
  pub tick : ℕ
  pub high : ℕ

abbrev pub plain_closest : Closest → PlainClosest
plain_closest closest = record { tick = closest.tick.micros; high = closest.high }

-- it is there
abbrev pub some_closest : Closest → Option PlainClosest
some_closest closest = Some (plain_closest closest)

abbrev pub closest_by : PlainApproach → PlainClosest
closest_by p = record { tick = p.tick; high = ceil_root p.square }

-- the closest approach of the leaves of an encounter, where there is one
unfoldable pub closest_of : PlainProblem → List PlainLeaf → Option PlainClosest
closest_of case ss = option_map closest_by (nearest (ends_in case ss))

-- ---- what it says of the distance

-- each leaf keeps the pieces of both its objects
abbrev pub KeepTheirPieces : PlainProblem → List PlainLeaf → Type 0
KeepTheirPieces case ss = All (λ s. KeepPieces case s.a s.b s.first s.last) ss

-- the cell of this one tick is flat
abbrev pub IsFlatAt : Curve → Curve → ℕ → Type 0
IsFlatAt c d m = is_flat (gap_terms (hull_gap c d m m)) ≡ true

-- The objects a and b are within `high` at the tick, and at no tick of these leaves more than one millimetre nearer. So where they are
-- within e at one of these ticks they are within e and one millimetre there. Each of these ticks by itself is flat, so that halving ends.
pub record IsNearest (case : PlainProblem) (a b : ℕ) (ss : List PlainLeaf) (tick high : ℕ) : Type 0 where
  pub within : OfObjectsAt case a b tick (λ c d. IsWithinAt c d high tick)
  pub beyond : (m : ℕ) → Any (IsTickOf a b m) ss → OfObjectsAt case a b m (λ c d. square_bound c d (high - BAND) ≤ℤ square_distance c d m)
  pub nearly : (m e : ℕ) → Any (IsTickOf a b m) ss → OfObjectsAt case a b m (λ c d. IsWithinAt c d e m)
      → OfObjectsAt case a b tick (λ c d. IsWithinAt c d (e + BAND) tick)
  pub flat : (m : ℕ) → Any (IsTickOf a b m) ss → OfObjectsAt case a b m (λ c d. IsFlatAt c d m)

-- an encounter has a closest approach, which says this of the distance of its objects
pub record HasNearest (case : PlainProblem) (encounter : List PlainLeaf) : Type 0 where
  pub at : PlainClosest
  pub is : closest_of case encounter ≡ Some at
  pub law : IsNearest case (first_object encounter) (second_object encounter) encounter at.tick at.high
