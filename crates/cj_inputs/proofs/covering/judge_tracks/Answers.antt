use Rattle.std.proofs.Common.{◌∙◌, ap, arith, map, sym, Err}
use Rattle.std.proofs.lemmas.Result.{err_from_is_err_and}
use Rattle.cj_track.specs.Tracks.{plain_track}
use Rattle.cj_status.specs.declared.status.FileCause.TheVariants.{Uncovered}
use Rattle.cj_status.specs.declared.status.Status.TheVariants.{BadFile}
use Rattle.cj_inputs.specs.Coverings.{all_cover}
use Rattle.cj_inputs.proofs.CoveringLemmas.{all_looked_at, next_covers, none_of, one_fails}
use Rattle.cj_inputs.proofs.covering.judge_tracks.Goals as goal

pub loop-track-preserved : goal.loop-track-preserved
loop-track-preserved c =
    let first = c.args.window.first.micros in
    let last = c.args.window.last.micros in
    let tracks = c.args.tracks.now in
    next_covers first last tracks c.loop-track.track-index c.track-item.result (all_cover first last (map plain_track tracks)) c.loop-track-test.true c.track-item.is
    (none_of c.first_uncovered.result _ c.first_uncovered.ensures c.in_default.not-Some) c.loop-track.invariant

pub returns-clause-told : goal.returns-clause-told
returns-clause-told c =
    let first = c.args.window.first.micros in
    let last = c.args.window.last.micros in
    let tracks = c.args.tracks.now in
    all_looked_at first last tracks c.loop-track.track-index (all_cover first last (map plain_track tracks)) (omega arith) c.loop-track.invariant

pub returns-in-Some-clause-told : goal.returns-in-Some-clause-told
returns-in-Some-clause-told c =
    let first = c.args.window.first.micros in
    let last = c.args.window.last.micros in
    let tracks = c.args.tracks.now in
    let named = c.in_ok-copy_of.ensures ∙ c.as_slice.ensures in
    one_fails first last tracks c.loop-track.track-index c.track-item.result c.in-Some.at.micros (all_cover first last (map plain_track tracks)) c.loop-track-test.true c.track-item.is
    (sym c.in-Some.ensures) c.loop-track.invariant
    ∙ ap (λ file. Err (BadFile file 0 (Uncovered c.in-Some.at.micros))) (sym named)

pub returns-in_err-copy_of : goal.returns-in_err-copy_of
returns-in_err-copy_of c =
    let p = err_from_is_err_and c.from_residual.result c.from_residual.ensures.1 in
    rw (p.1, p.2) (record { between = tt; told = tt })
