-- What the rules of nodes say of the pieces of a track, and of the places of its interpolants.
use Rattle.std.proofs.Common.{◌≡◌, ℕ, ◌-◌, ◌*◌, ◌<◌, ◌≤◌, List, [], ◌∷◌, Option, Some, None, refl, sym, subst, arith}
use Rattle.std.specs.Prelude.{ℤ, pos, ◌+ℤ◌, All, IfSome, slice_get, option_map, option_and_then}
use Rattle.std.proofs.lemmas.Int.{ints}
use Rattle.cj_interval.specs.Rounding.{floor_div, ceil_div}
use Rattle.cj_interval.specs.Sizes.{IsWithin}
use Rattle.cj_interval.proofs.ListLemmas.{Each, Each-append, All-from_each, each_from_All, each_at}
use Rattle.cj_interval.proofs.MachineLemmas.{product_within}
use Rattle.cj_interval.proofs.SizeLemmas.{floor_div_within}
use Rattle.cj_track.specs.declared.node.Node.{Node}
use Rattle.cj_track.specs.declared.segment.Segment.{Segment}
use Rattle.cj_track.specs.declared.track.Track.{Track}
use Rattle.cj_track.specs.Limits.{IsWithin as IsAtMost, MAX_COORDINATE, MAX_RATE}
use Rattle.cj_track.specs.Nodes.{IsStep, AreSteps, AreNodes}
use Rattle.cj_track.specs.PlainTracks.{PlainTrack}
use Rattle.cj_track.specs.Tracks.{plain_segment, plain_track}
use Rattle.cj_case.specs.PlainProblems.{PlainProblem}
use Rattle.cj_hermite.specs.Interpolant.{Four, Curve, AreBounded, IsOver, controls_of}
use Rattle.cj_hermite.specs.Levels.{polar}
use Rattle.cj_hermite.specs.Limits.{REACH}
use Rattle.cj_hermite.specs.ObjectsAtTicks.{curve_at}
use Rattle.cj_hermite.specs.Pieces.{PlainPiece, pieces_of_segment, pieces_of, piece_holding, curve_of_piece}
use Rattle.cj_hermite.proofs.LevelLemmas.{level-low_within, level-high_within}
use Rattle.cj_hermite.proofs.PieceLemmas.{piece_between, pieces_in, pieces_through}
use Rattle.cj_hermite.proofs.StateLemmas.{has, lacks, state}
use Rattle.cj_rtn.specs.declared.relative.Rtn.{Rtn}
use Rattle.cj_rtn.specs.Exact.{AreExact, IsTame, IsNearlyAt}
use Rattle.cj_rtn.specs.States.{middle, place_at}
use Rattle.cj_rtn.specs.Vectors.{IsEachWithin}
use Rattle.cj_rtn.proofs.ExactLemmas.{relative_near}
use Rattle.cj_rtn.proofs.ObjectLemmas.{with_both}

-- ---- the pieces of a track

controls_bounded : (p v q w : ℤ) (t : ℕ) → IsAtMost MAX_COORDINATE p → IsAtMost MAX_RATE v → IsAtMost MAX_COORDINATE q → IsAtMost MAX_RATE w → t ≤ 3_600_000_000 → AreBounded (controls_of p v q w t)
controls_bounded p v q w t p_in v_in q_in w_in short =
    let out = product_within v (pos t) MAX_RATE 3_600_000_000 (omega (arith, ints)) (omega arith) in
    let back = product_within w (pos t) MAX_RATE 3_600_000_000 (omega (arith, ints)) (omega arith) in
    record { k0 = omega (arith, ints); k1 = omega (arith, ints); k2 = omega (arith, ints); k3 = omega (arith, ints) }

tame_between : (first last : ℕ) (a b : Node) → IsStep a b → IsTame (piece_between first last a b)
tame_between first last a b step =
    let t = b.at.micros - a.at.micros in
    let short : b.at.micros - a.at.micros ≤ 3_600_000_000 = omega (arith, step.short) in
    record {
      rises = step.rises;
      x = controls_bounded a.p.x a.v.x b.p.x b.v.x t a.place.0 a.rate.0 b.place.0 b.rate.0 short;
      y = controls_bounded a.p.y a.v.y b.p.y b.v.y t a.place.1 a.rate.1 b.place.1 b.rate.1 short;
      z = controls_bounded a.p.z a.v.z b.p.z b.v.z t a.place.2 a.rate.2 b.place.2 b.rate.2 short;
    }

tame_in : (first last : ℕ) (nodes : List Node) → AreSteps nodes → Each IsTame (pieces_in first last nodes)
tame_in first last [] steps = tt
tame_in first last (a ∷ []) steps = tt
tame_in first last (a ∷ b ∷ nodes) steps = (tame_between first last a b steps.0, tame_in first last (b ∷ nodes) steps.1)

tame_through : (segments : List Segment) → Each (λ s. AreNodes s.nodes) segments → Each IsTame (pieces_through segments)
tame_through [] nodes = tt
tame_through (a ∷ segments) nodes =
    Each-append IsTame (pieces_of_segment (plain_segment a)) (pieces_through segments) (tame_in a.first.micros a.last.micros a.nodes nodes.0.steps) (tame_through segments nodes.1)

pub track_tame : (track : Track) → All (λ s. AreNodes s.nodes) track.segments → All IsTame (pieces_of (plain_track track))
track_tame track nodes =
    All-from_each IsTame (pieces_of (plain_track track)) (tame_through track.segments (each_from_All (λ s. AreNodes s.nodes) track.segments nodes))

-- ---- the interpolant of an object

-- it gives a place at the tick, which lies within reach
record IsThere (c : Curve) (m : ℕ) : Type 0 where
  over : IsOver c m m
  place : IsEachWithin REACH (place_at c m)

axis_within : (k : Four) (t u : ℕ) → 0 < t → u ≤ t → AreBounded k → IsWithin REACH (middle (polar floor_div k t u u u) (polar ceil_div k t u u u))
unfolding middle
axis_within k t u some within b =
    let one : 0 < 1 = omega arith in
    let many : 0 < 3_000_000 = omega arith in
    let a = level-low_within k.k0 k.k1 t u 3_000_000 REACH some many within b.k0 b.k1 in
    let c = level-low_within k.k1 k.k2 t u 3_000_000 REACH some many within b.k1 b.k2 in
    let d = level-low_within k.k2 k.k3 t u 3_000_000 REACH some many within b.k2 b.k3 in
    let low = level-low_within _ _ t u 1 REACH some one within (level-low_within _ _ t u 1 REACH some one within a c) (level-low_within _ _ t u 1 REACH some one within c d) in
    let a' = level-high_within k.k0 k.k1 t u 3_000_000 REACH some many within b.k0 b.k1 in
    let c' = level-high_within k.k1 k.k2 t u 3_000_000 REACH some many within b.k1 b.k2 in
    let d' = level-high_within k.k2 k.k3 t u 3_000_000 REACH some many within b.k2 b.k3 in
    let high = level-high_within _ _ t u 1 REACH some one within (level-high_within _ _ t u 1 REACH some one within a' c') (level-high_within _ _ t u 1 REACH some one within c' d') in
    floor_div_within (polar floor_div k t u u u +ℤ polar ceil_div k t u u u) 2 REACH (omega arith) (sum (polar floor_div k t u u u) (polar ceil_div k t u u u) low high)
  where
    sum : (lo hi : ℤ) → IsWithin REACH lo → IsWithin REACH hi → IsWithin (REACH * 2) (lo +ℤ hi)
    sum lo hi h k = omega (arith, ints)

there : (x : PlainPiece) (m : ℕ) → IsTame x → x.from.at ≤ m → m ≤ x.to.at → IsThere (curve_of_piece x) m
unfolding place_at
there x m tame from to =
    let t = x.to.at - x.from.at in
    let u = m - x.from.at in
    let up = tame.rises in
    let some : 0 < t = omega arith in
    let within : u ≤ t = omega arith in
    record {
      over = record { some = some; from = from; to = omega arith };
      place = record {
        x = axis_within (curve_of_piece x).x t u some within tame.x;
        y = axis_within (curve_of_piece x).y t u some within tame.y;
        z = axis_within (curve_of_piece x).z t u some within tame.z;
      };
    }

track_there : (e : PlainTrack) (m : ℕ) → All IsTame (pieces_of e) → IfSome (option_map curve_of_piece (piece_holding e m)) (λ c. IsThere c m)
track_there e m tame = elim (state e m) [
  | has number x is ↦
      let at = is.at in
      let own : IsTame x = each_at IsTame (pieces_of e) number x (each_from_All IsTame (pieces_of e) tame) is.place in
      let covers = is.covers in
      rw at (there x m own covers.from covers.to)
  | lacks unnumbered none ↦ rw none tt
]

object_there : (case : PlainProblem) (object m : ℕ) → All (λ e. All IsTame (pieces_of e)) case.tracks → IfSome (curve_at case object m) (λ c. IsThere c m)
unfolding curve_at
object_there case object m tame = go (slice_get case.tracks object)
    (λ e is. each_at (λ e. All IsTame (pieces_of e)) case.tracks object e (each_from_All (λ e. All IsTame (pieces_of e)) case.tracks tame) is)
  where
    go : (o : Option PlainTrack) → ((e : PlainTrack) → o ≡ Some e → All IsTame (pieces_of e)) →
        IfSome (option_map curve_of_piece (option_and_then (λ e. piece_holding e m) o)) (λ c. IsThere c m)
    go None all = tt
    go (Some e) all = track_there e m (all e refl)

pub all_exact : (case : PlainProblem) → All (λ e. All IsTame (pieces_of e)) case.tracks → AreExact case
all_exact case tame a b m c d first second within =
    let one : IsThere c m = subst (λ (o : Option Curve). IfSome o (λ c. IsThere c m)) first (object_there case a m tame) in
    let two : IsThere d m = subst (λ (o : Option Curve). IfSome o (λ c. IsThere c m)) second (object_there case b m tame) in
    subst (λ (o : Option Rtn). IfSome o (IsNearlyAt c d m)) (with_both case a b m c d (sym first) (sym second)) (relative_near c d m one.over two.over one.place within)
