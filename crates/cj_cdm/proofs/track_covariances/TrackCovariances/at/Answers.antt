use Rattle.std.proofs.Common.{◌≡◌, ◌∙◌, ap}
use Rattle.cj_track.specs.declared.track.Track.{Track}
use Rattle.cj_track.specs.Tracks.{plain_track}
use Rattle.cj_cdm.specs.Covariances.{covariance_at}
use Rattle.cj_cdm.proofs.SegmentLemmas.{covariance_of_segment}
use Rattle.cj_cdm.proofs.track_covariances.TrackCovariances.at.Goals as goal

pub returns : goal.returns
returns c =
    let track = c.self.inside.track.now in
    let view = c.self.view_is in
    let same : track ≡ c.args.self.now = cc in
    c.at.ensures
    ∙ covariance_of_segment track c.args.at.micros c.in_ok-index.index c.segment_of.result c.self.inside.segments.items c.index.result.now c.in_ok-index.ensures.value c.segment_of.ensures
    c.self.invariant c.index.ensures
    ∙ ap (λ (t : Track). covariance_at (plain_track t) c.args.at.micros) same
