use Rattle.std.proofs.Common.{List, All, subst, ◌∙◌, arith}
use Rattle.std.proofs.lemmas.List.{take_all}
use Rattle.cj_interval.proofs.ListLemmas.{Each, each_from_All}
use Rattle.cj_track.specs.declared.track.Track.{Track}
use Rattle.cj_case.specs.Problems.{plain_problem}
use Rattle.cj_cert.proofs.AcceptedLemmas.{splits}
use Rattle.cj_cert.proofs.TimesLemmas.{one_more}
use Rattle.cj_cert.proofs.TrackLemmas.{IsRuled, all_in_time, all_near, all_within}
use Rattle.cj_cert.proofs.WrittenLemmas.{written_accepted}
use Rattle.cj_cert.proofs.accepting.acceptance.Goals as goal

pub loop-track-init : goal.loop-track-init
loop-track-init c k d lt = absurd (omega arith)

pub loop-track-preserved : goal.loop-track-preserved
loop-track-preserved c =
    one_more IsRuled c.loop-track.track-index c.as_slice-tracks.result.now c.track-item.result (omega arith) c.track-item.is c.loop-track.invariant
    (record { time = c.rules_of.ensures.time; within = c.rules_of.ensures.within; near = c.rules_of.ensures.near })

-- each track
all_tracks : (c : goal.After-loop-track) → Each IsRuled c.args.problem.now.tracks
all_tracks c =
    let tracks = c.as_slice-tracks.result.now in
    each_from_All IsRuled c.args.problem.now.tracks
    (subst (λ (xs : List Track). All IsRuled xs) (take_all c.loop-track.track-index tracks (omega arith) ∙ c.as_slice-tracks.ensures.value) c.loop-track.invariant)

pub returns-clause-splits : goal.returns-clause-splits
returns-clause-splits c certificate =
    let problem = c.args.problem.now in
    splits (plain_problem problem) certificate (all_in_time problem.tracks (all_tracks c)) problem.least

pub returns-clause-written : goal.returns-clause-written
returns-clause-written c =
    let problem = c.args.problem.now in
    written_accepted (plain_problem problem) (all_in_time problem.tracks (all_tracks c))
    (all_within problem.tracks (all_tracks c) problem.window.first.micros problem.window.last.micros) problem.least

pub returns-clause-near : goal.returns-clause-near
returns-clause-near c = all_near c.args.problem.now.tracks (all_tracks c)
