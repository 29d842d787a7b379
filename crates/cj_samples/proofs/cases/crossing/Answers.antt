use Rattle.std.proofs.Common.{◌≡◌, ap, ◌∙◌}
use Rattle.std.proofs.lemmas.Result.{IfOk-weaker}
use Rattle.cj_track.specs.PlainTracks.{PlainTrack}
use Rattle.cj_track.specs.Tracks.{plain_track}
use Rattle.cj_case.specs.Problems.{plain_problem}
use Rattle.cj_samples.specs.Scenes.{case_of, path_along_y, path_along_z}
use Rattle.cj_samples.proofs.cases.crossing.Goals as goal

pub returns-clause-tracks : goal.returns-clause-tracks
returns-clause-tracks c = c.problem_of.ensures.tracks

pub returns-clause-slots : goal.returns-clause-slots
returns-clause-slots c = c.problem_of.ensures.slots

pub returns-clause-value : goal.returns-clause-value
returns-clause-value c =
    let a = c.in_ok-along_y.field-0 in
    let b = c.in_ok-along_z.field-0 in
    IfOk-weaker c.problem_of.result (λ problem. plain_problem problem ≡ case_of (plain_track a) (plain_track b) 0 0) (λ problem. plain_problem problem ≡ case_of path_along_y path_along_z 0 0)
    (λ problem is. is ∙ ap (λ (t : PlainTrack). case_of t (plain_track b) 0 0) c.in_ok-along_y.ensures.value ∙ ap (λ (t : PlainTrack). case_of path_along_y t 0 0) c.in_ok-along_z.ensures.value)
    c.problem_of.ensures.value
