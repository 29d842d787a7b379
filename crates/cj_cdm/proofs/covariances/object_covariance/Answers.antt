use Rattle.std.proofs.Common.{Option, ap, sym, ◌∙◌}
use Rattle.std.specs.Prelude.{option_and_then}
use Rattle.cj_track.specs.PlainTracks.{PlainTrack}
use Rattle.cj_cdm.specs.Covariances.{covariance_at}
use Rattle.cj_cdm.proofs.SideLemmas.{track_missing, track_there}
use Rattle.cj_cdm.proofs.covariances.object_covariance.Goals as goal

pub returns : goal.returns
returns c =
    let found = c.in_ok-track.ensures.lookup in
    let there = track_there c.args.problem.now.tracks c.as_slice.result.now c.args.object c.in_ok-track.track.now c.as_slice.ensures.value found.3.0 found.1 in
    c.covariance_at.ensures ∙ ap (λ (o : Option PlainTrack). option_and_then (λ e. covariance_at e c.args.at.micros) o) (sym there)

pub returns-in_err-track : goal.returns-in_err-track
returns-in_err-track c =
    let missing = track_missing c.args.problem.now.tracks c.as_slice.result.now c.args.object c.as_slice.ensures.value c.in_err-track.ensures.lookup.3 in
    rw c.from_residual.ensures (ap (λ (o : Option PlainTrack). option_and_then (λ e. covariance_at e c.args.at.micros) o) (sym missing))
