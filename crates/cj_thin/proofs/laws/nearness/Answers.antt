use Rattle.std.proofs.Common.{ℕ, List, subst, map, arith, take_all}
use Rattle.std.specs.List.{All}
use Rattle.cj_interval.proofs.ListLemmas.{All-from_each, Each-map, each_from_All}
use Rattle.cj_track.specs.declared.track.Track.{Track}
use Rattle.cj_track.specs.PlainTracks.{PlainTrack}
use Rattle.cj_track.specs.Tracks.{plain_track}
use Rattle.cj_thin.specs.Thinned.{thinned}
use Rattle.cj_thin.specs.Within.{IsThinnerWithin}
use Rattle.cj_thin.proofs.ThinLemmas.{all_more, track_within}
use Rattle.cj_thin.proofs.laws.nearness.Goals as goal

pub loop-track-init : goal.loop-track-init
loop-track-init c k d lt = absurd (omega arith)

pub loop-track-preserved : goal.loop-track-preserved
loop-track-preserved c =
    let e = c.args.e in
    let track = c.track-item.result in
    all_more (λ (t : Track). IsThinnerWithin e (plain_track t) (thinned e (plain_track t))) c.loop-track.track-index c.args.tracks.now track c.loop-track-test.true c.track-item.is
    (track_within e track c.requires c.nodes_of.ensures) c.loop-track.invariant

within_each : (e : ℕ) (tracks : List Track) → All (λ (t : Track). IsThinnerWithin e (plain_track t) (thinned e (plain_track t))) tracks → All (λ (t : PlainTrack). IsThinnerWithin e t (thinned e t)) (map plain_track tracks)
within_each e tracks all =
    All-from_each (λ (t : PlainTrack). IsThinnerWithin e t (thinned e t)) (map plain_track tracks)
    (Each-map (λ (t : PlainTrack). IsThinnerWithin e t (thinned e t)) plain_track tracks (each_from_All (λ (t : Track). IsThinnerWithin e (plain_track t) (thinned e (plain_track t))) tracks all))

pub returns : goal.returns
returns c =
    let e = c.args.e in
    let tracks = c.args.tracks.now in
    record {
      law = within_each e tracks
          (subst (All (λ (t : Track). IsThinnerWithin e (plain_track t) (thinned e (plain_track t)))) (take_all c.loop-track.track-index tracks c.loop-track-test.false) c.loop-track.invariant);
    }
