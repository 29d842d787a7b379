use Rattle.std.proofs.Common.{◌≡◌, [], ◌∷◌, sym, ap, ◌∙◌, arith}
use Rattle.std.proofs.lemmas.Result.{IfOk-weaker}
use Rattle.cj_track.specs.PlainTracks.{PlainSegment, PlainTrack}
use Rattle.cj_track.specs.Tracks.{plain_track}
use Rattle.cj_case.specs.Problems.{plain_problem}
use Rattle.cj_samples.specs.Samples.{sat_a}
use Rattle.cj_samples.specs.Scenes.{case_of, resting_at}
use Rattle.cj_samples.proofs.cases.resting.Goals as goal

pub problem_of-requires : goal.problem_of-requires
problem_of-requires c = record {
  frame = c.in_ok-a.ensures.frame ∙ sym c.in_ok-b.ensures.frame;
  few_of_a = omega (arith, c.in_ok-a.ensures.nodes);
  few_of_b = omega (arith, c.in_ok-b.ensures.nodes);
}

pub returns-clause-tracks : goal.returns-clause-tracks
returns-clause-tracks c = c.problem_of.ensures.tracks

pub returns-clause-threshold : goal.returns-clause-threshold
returns-clause-threshold c = c.problem_of.ensures.threshold

pub returns-clause-sizes : goal.returns-clause-sizes
returns-clause-sizes c = c.problem_of.ensures.sizes

pub returns-clause-value : goal.returns-clause-value
returns-clause-value c =
    let a = c.in_ok-a.a in
    let b = c.in_ok-b.b in
    let first : plain_track a ≡ resting_at 7000 = c.in_ok-a.ensures.value ∙ ap (λ (s : PlainSegment). sat_a (s ∷ [])) c.in_ok-rest.ensures.value in
    let second : plain_track b ≡ resting_at 7005 = c.in_ok-b.ensures.value ∙ ap (λ (s : PlainSegment). sat_a (s ∷ [])) c.in_ok-rest-2.ensures.value in
    IfOk-weaker c.problem_of.result (λ problem. plain_problem problem ≡ case_of (plain_track a) (plain_track b) 0 0) (λ problem. plain_problem problem ≡ case_of (resting_at 7000) (resting_at 7005) 0 0)
    (λ problem is. is ∙ ap (λ (t : PlainTrack). case_of t (plain_track b) 0 0) first ∙ ap (λ (t : PlainTrack). case_of (resting_at 7000) t 0 0) second) c.problem_of.ensures.value
