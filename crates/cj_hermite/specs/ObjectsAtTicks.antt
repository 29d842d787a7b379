-- The objects of a case at ticks: their pieces and interpolants, and at which ticks two both have a state.
use Rattle.std.specs.Prelude.{◌≡◌, ℕ, ◌<◌, ◌≤◌, true, Option, Some, option_map, option_and_then, slice_get, IsSomeAnd}
use Rattle.cj_hermite.specs.Interpolant.{Curve}
use Rattle.cj_hermite.specs.Pieces.{piece_holding, piece_at, curve_of_piece, OfBothAt}
use Rattle.cj_case.specs.PlainProblems.{PlainProblem}
use Rattle.cj_case.specs.Primaries.{concerns}

-- the number of the piece in which an object is at a tick, or none where it has no state
unfoldable pub number_at : PlainProblem → ℕ → ℕ → Option ℕ
number_at case object m = option_and_then (λ e. piece_at e m) (slice_get case.tracks object)

-- the interpolant of an object at a tick, or none where it has no state
unfoldable pub curve_at : PlainProblem → ℕ → ℕ → Option Curve
curve_at case object m = option_map curve_of_piece (option_and_then (λ e. piece_holding e m) (slice_get case.tracks object))

-- at each tick from first to last the objects a and b have these interpolants
pub record HaveCurves (case : PlainProblem) (a b first last : ℕ) (c d : Curve) : Type 0 where
  pub first_curve : (m : ℕ) → first ≤ m → m ≤ last → curve_at case a m ≡ Some c
  pub second_curve : (m : ℕ) → first ≤ m → m ≤ last → curve_at case b m ≡ Some d

-- the objects a and b both have a state at the tick, and this holds of their interpolants
abbrev pub OfObjectsAt : PlainProblem → ℕ → ℕ → ℕ → (Curve → Curve → Type 0) → Type 0
OfObjectsAt case a b m P = IsSomeAnd (slice_get case.tracks a) (λ e. IsSomeAnd (slice_get case.tracks b) (λ f. OfBothAt e f m P))

-- a tick of the window at which the objects a and b, the lower number first, both have a state, of a pair that is looked at
pub record IsCommonOf (case : PlainProblem) (a b m : ℕ) : Type 0 where
  pub ordered : a < b
  pub concerned : concerns case (a, b) ≡ true
  pub after : case.first ≤ m
  pub before : m ≤ case.last
  pub nodes : OfObjectsAt case a b m (λ c d. Unit {0})
