use Rattle.std.proofs.Common.{Option, ap, sym, ◌∙◌}
use Rattle.std.specs.Prelude.{option_and_then}
use Rattle.cj_track.specs.PlainTracks.{PlainTrack}
use Rattle.cj_case.specs.declared.problem.Problem.{Problem}
use Rattle.cj_case.specs.Problems.{plain_problem}
use Rattle.cj_cdm.specs.Building.{side_of}
use Rattle.cj_cdm.specs.Covariances.{covariance_at}
use Rattle.cj_cdm.proofs.MessageLemmas.{object_bare}
use Rattle.cj_cdm.proofs.SideLemmas.{track_missing, track_there}
use Rattle.cj_cdm.proofs.building.side_of_object.Goals as goal

pub side_of_track-requires : goal.side_of_track-requires
side_of_track-requires c =
    let found = c.in_ok-track.ensures.lookup in
    let listed = c.as_slice.ensures.value ∙ ap (λ (p : Problem). p.tracks) c.problem.ensures in
    let there = track_there c.args.covariances.now.tracks c.as_slice.result.now c.args.object c.in_ok-track.track.now listed found.3.0 found.1 in
    sym (ap (λ (o : Option PlainTrack). option_and_then (λ e. covariance_at e c.args.at.micros) o) there) ∙ sym c.in_ok-matrix.ensures

pub returns-clause-value : goal.returns-clause-value
returns-clause-value c =
    let found = c.in_ok-track.ensures.lookup in
    let listed = c.as_slice.ensures.value ∙ ap (λ (p : Problem). p.tracks) c.problem.ensures in
    let there = track_there c.args.covariances.now.tracks c.as_slice.result.now c.args.object c.in_ok-track.track.now listed found.3.0 found.1 in
    c.side_of_track.ensures.value ∙ ap (λ (o : Option PlainTrack). option_and_then (λ e. side_of e c.args.at.micros) o) (sym there)

pub returns-in_err-matrix-clause-value : goal.returns-in_err-matrix-clause-value
returns-in_err-matrix-clause-value c = rw c.from_residual.ensures (object_bare (plain_problem c.args.covariances.now) c.args.object c.args.at.micros c.in_err-matrix.ensures)

pub returns-in_err-track-clause-value : goal.returns-in_err-track-clause-value
returns-in_err-track-clause-value c =
    let missing = track_missing c.args.covariances.now.tracks c.as_slice.result.now c.args.object (c.as_slice.ensures.value ∙ ap (λ (p : Problem). p.tracks) c.problem.ensures) c.in_err-track.ensures.lookup.3 in
    rw c.from_residual-in_err-track.ensures (ap (λ (o : Option PlainTrack). option_and_then (λ e. side_of e c.args.at.micros) o) (sym missing))
