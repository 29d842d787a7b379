-- What the rules of its segments and nodes say of each track of a problem.
use Rattle.std.proofs.Common.{◌≡◌, ℕ, zero, suc, ◌^◌, List, [], ◌∷◌, map, Some, subst}
use Rattle.std.specs.Prelude.{All, slice_get}
use Rattle.cj_interval.proofs.ListLemmas.{Each, Each-map, Each-weaker, All-from_each, each_from_All}
use Rattle.cj_track.specs.declared.track.Track.{Track}
use Rattle.cj_track.specs.PlainTracks.{PlainTrack}
use Rattle.cj_track.specs.Tracks.{plain_track}
use Rattle.cj_bezier.specs.Gaps.{gap_terms}
use Rattle.cj_bezier.specs.Parts.{AreInTime, hulls_of}
use Rattle.cj_bezier.specs.Shells.{IsOuter}
use Rattle.cj_cert.specs.Reaches.{IsHullNear, StaysNear}

-- its pieces come in order of time, and its hulls lie within a million kilometres of the origin
pub record IsRuled (t : Track) : Type 0 where
  pub time : (from to : ℕ) → AreInTime (plain_track t) from to
  pub within : (from to : ℕ) → All (λ h. IsOuter (gap_terms h) (10 ^ 18)) (hulls_of (plain_track t) from to)
  pub near : (from to : ℕ) → All IsHullNear (hulls_of (plain_track t) from to)

pub all_in_time : (tracks : List Track) → Each IsRuled tracks → (i : ℕ) (e : PlainTrack) → slice_get (map plain_track tracks) i ≡ Some e → (from to : ℕ) → AreInTime e from to
all_in_time [] each i e is = absurd cc
all_in_time (t ∷ tracks) each zero e is = let same : plain_track t ≡ e = cc in subst (λ (f : PlainTrack). (from to : ℕ) → AreInTime f from to) same each.0.time
all_in_time (t ∷ tracks) each (suc i) e is = all_in_time tracks each.1 i e is

pub all_within : (tracks : List Track) → Each IsRuled tracks → (from to i : ℕ) (e : PlainTrack) → slice_get (map plain_track tracks) i ≡ Some e
    → Each (λ h. IsOuter (gap_terms h) (10 ^ 18)) (hulls_of e from to)
all_within [] each from to i e is = absurd cc
all_within (t ∷ tracks) each from to zero e is =
    let same : plain_track t ≡ e = cc in
    subst (λ (f : PlainTrack). Each (λ h. IsOuter (gap_terms h) (10 ^ 18)) (hulls_of f from to)) same
    (each_from_All (λ h. IsOuter (gap_terms h) (10 ^ 18)) (hulls_of (plain_track t) from to) (each.0.within from to))
all_within (t ∷ tracks) each from to (suc i) e is = all_within tracks each.1 from to i e is

pub all_near : (tracks : List Track) → Each IsRuled tracks → All StaysNear (map plain_track tracks)
all_near tracks each =
    All-from_each StaysNear (map plain_track tracks)
    (Each-map StaysNear plain_track tracks (Each-weaker IsRuled (λ t. StaysNear (plain_track t)) (λ t ruled. record { time = ruled.time; hulls = ruled.near }) tracks each))
