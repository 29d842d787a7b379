-- Interpolants have lengths, since the times of nodes rise.
use Rattle.std.proofs.Common.{◌≡◌, ℕ, ◌<◌, ◌≤◌, Option, Some, None, refl, subst, arith}
use Rattle.std.specs.Prelude.{All, IfSome, slice_get, option_map, option_and_then}
use Rattle.cj_interval.proofs.ListLemmas.{each_from_All, each_at}
use Rattle.cj_track.specs.PlainTracks.{PlainTrack}
use Rattle.cj_hermite.specs.Interpolant.{Curve, IsOver}
use Rattle.cj_hermite.specs.Pieces.{pieces_of, piece_holding, curve_of_piece}
use Rattle.cj_case.specs.PlainProblems.{PlainProblem}
use Rattle.cj_hermite.specs.ObjectsAtTicks.{curve_at, HaveCurves}
use Rattle.cj_hermite.proofs.ObjectLemmas.{within_at}
use Rattle.cj_hermite.proofs.StateLemmas.{has, lacks, state}
use Rattle.cj_hermite.specs.Lengths.{Rises, IsRising, HaveLengths}

curve_long : (e : PlainTrack) (m : ℕ) → IsRising e → IfSome (option_map curve_of_piece (piece_holding e m)) (λ c. 0 < c.span)
curve_long e m rising = elim (state e m) [
  | has number x is ↦
      let at = is.at in
      let up : Rises x = each_at Rises (pieces_of e) number x (each_from_All Rises (pieces_of e) rising) is.place in
      rw at (omega arith)
  | lacks unnumbered none ↦ rw none tt
]

pub curves_long : (case : PlainProblem) → All IsRising case.tracks → HaveLengths case
unfolding curve_at
curves_long case rising object m = go (slice_get case.tracks object)
    (λ e is. each_at IsRising case.tracks object e (each_from_All IsRising case.tracks rising) is)
  where
    go : (o : Option PlainTrack) → ((e : PlainTrack) → o ≡ Some e → IsRising e) →
        IfSome (option_map curve_of_piece (option_and_then (λ e. piece_holding e m) o)) (λ c. 0 < c.span)
    go None all = tt
    go (Some e) all = curve_long e m (all e refl)

-- ---- over ticks

long_at : (case : PlainProblem) (object m : ℕ) (c : Curve) → HaveLengths case → curve_at case object m ≡ Some c → 0 < c.span
long_at case object m c long is = subst (λ (o : Option Curve). IfSome o (λ d. 0 < d.span)) is (long object m)

over_ticks : (case : PlainProblem) (object first last : ℕ) (c : Curve) → HaveLengths case → first ≤ last →
    ((m : ℕ) → first ≤ m → m ≤ last → curve_at case object m ≡ Some c) → IsOver c first last
over_ticks case object first last c long le have =
    let from = within_at case object first c (have first (omega arith) le) in
    let to = within_at case object last c (have last le (omega arith)) in
    record { some = long_at case object first c long (have first (omega arith) le); from = from.0; to = to.1 }

pub first_over : (case : PlainProblem) (a b first last : ℕ) (c d : Curve) → HaveLengths case → first ≤ last → HaveCurves case a b first last c d →
    IsOver c first last
first_over case a b first last c d long le have = over_ticks case a first last c long le have.first_curve

pub second_over : (case : PlainProblem) (a b first last : ℕ) (c d : Curve) → HaveLengths case → first ≤ last → HaveCurves case a b first last c d →
    IsOver d first last
second_over case a b first last c d long le have = over_ticks case b first last d long le have.second_curve
