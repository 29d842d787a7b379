use Rattle.cj_track.specs.Tracks.{plain_track}
use Rattle.cj_case.specs.Problems.{plain_problem}
use Rattle.cj_checker.proofs.RowLemmas.{row_past}
use Rattle.cj_checker.proofs.UnfitLemmas.{read_past}
use Rattle.cj_checker.proofs.rows.row_shown.Goals as goal

pub returns-in_default : goal.returns-in_default
returns-in_default c =
    let past = c.in_default.ensures.lookup in
    row_past (plain_problem c.args.problem.now) c.args.slots c.args.object c.args.line
    (read_past plain_track c.args.problem.now.tracks c.as_slice.result.now c.args.object c.as_slice.ensures.value past.3)
