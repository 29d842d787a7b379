use Rattle.std.proofs.Common.{sym}
use Rattle.cj_track.specs.Tracks.{plain_track}
use Rattle.cj_case.specs.Problems.{plain_problem}
use Rattle.cj_hermite.specs.Interpolant.{curve_of}
use Rattle.cj_rtn.proofs.ObjectLemmas.{track_there, track_missing, no_object, no_state, has_state}
use Rattle.cj_rtn.proofs.relating.piece_of_object.Goals as goal

pub returns-in_err-track-clause-curve : goal.returns-in_err-track-clause-curve
returns-in_err-track-clause-curve c =
    let case = plain_problem c.args.problem.now in
    rw c.from_residual.ensures
    (no_object case c.args.object c.args.at.micros (track_missing c.args.problem.now.tracks c.as_slice.result.now c.args.object c.as_slice.ensures.value c.in_err-track.ensures.lookup.3))

pub returns-in_err-index-clause-curve : goal.returns-in_err-index-clause-curve
returns-in_err-index-clause-curve c =
    let case = plain_problem c.args.problem.now in
    let found = c.in_ok-track.ensures.lookup in
    let track = c.in_ok-track.track.now in
    let there = track_there c.args.problem.now.tracks c.as_slice.result.now c.args.object track c.as_slice.ensures.value found.3.0 found.1 in
    rw c.from_residual-in_err-index.ensures (no_state case c.args.object c.args.at.micros (plain_track track) there (sym c.in_err-index.ensures.value))

pub returns-clause-curve : goal.returns-clause-curve
returns-clause-curve c =
    let case = plain_problem c.args.problem.now in
    let found = c.in_ok-track.ensures.lookup in
    let track = c.in_ok-track.track.now in
    let there = track_there c.args.problem.now.tracks c.as_slice.result.now c.args.object track c.as_slice.ensures.value found.3.0 found.1 in
    has_state case c.args.object c.args.at.micros (plain_track track) _ (curve_of c.piece.result) there c.in_ok-index.ensures.piece c.piece.ensures.curve
