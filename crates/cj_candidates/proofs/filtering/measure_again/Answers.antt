use Rattle.std.proofs.Common.{List, length, ap, arith}
use Rattle.std.proofs.lemmas.List.{length-map}
use Rattle.cj_track.specs.declared.track.Track.{Track}
use Rattle.cj_track.specs.Tracks.{plain_track}
use Rattle.cj_candidates.proofs.MeasuredLemmas.{measured_places, of_problem}
use Rattle.cj_candidates.proofs.filtering.measure_again.Goals as goal

pub measure_some-requires-clause-long : goal.measure_some-requires-clause-long
measure_some-requires-clause-long g c =
    let tracks = c.args.problem.now.tracks in
    omega (arith, c.requires.places.long, length-map tracks plain_track, ap (λ (ts : List Track). length ts) c.as_slice-tracks.ensures.value)

pub measure_some-requires-clause-measured : goal.measure_some-requires-clause-measured
measure_some-requires-clause-measured g c _ _ =
    measured_places c.args.old.now c.args.problem.now c.as_slice-tracks.result.now c.slot_count-slots.result c.args.places.now c.args.from.now c.as_slice-tracks.ensures.value c.slot_count-slots.ensures
    c.requires.first c.requires.last c.requires.places c.requires.measured

pub returns : goal.returns
returns g c = of_problem c.args.problem.now c.as_slice-tracks.result.now c.slot_count-slots.result c.measure_some.result c.as_slice-tracks.ensures.value c.slot_count-slots.ensures c.measure_some.ensures
