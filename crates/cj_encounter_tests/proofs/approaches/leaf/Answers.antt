use Rattle.std.proofs.Common.{List, get_or, ap, ◌∙◌}
use Rattle.cj_track.specs.declared.track.Track.{Track}
use Rattle.cj_encounter_tests.proofs.KeptLemmas.{keeps_run}
use Rattle.cj_encounter_tests.proofs.approaches.leaf.Goals as goal

pub returns-clause-keeps : goal.returns-clause-keeps
returns-clause-keeps c =
    keeps_run c.args.problem.now c.index-tracks-0.result c.index-tracks-1.result c.tick.result.micros c.tick-2.result.micros c.in_ok-run.run' c.requires
    (c.index-tracks-0.is ∙ ap (λ (ts : List Track). get_or ts 0 c.index-tracks-0.result) c.as_slice-tracks.ensures.value)
    (c.index-tracks-1.is ∙ ap (λ (ts : List Track). get_or ts 1 c.index-tracks-1.result) c.as_slice-tracks.ensures.value)
    c.in_ok-run.ensures.run
