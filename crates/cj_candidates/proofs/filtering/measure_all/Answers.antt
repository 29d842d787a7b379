use Rattle.cj_candidates.proofs.MeasuredLemmas.{all_measured, of_problem}
use Rattle.cj_candidates.proofs.filtering.measure_all.Goals as goal

pub returns-clause-theirs : goal.returns-clause-theirs
returns-clause-theirs g c = of_problem c.args.problem.now c.as_slice-tracks.result.now c.slot_count-slots.result c.measure_objects.result c.as_slice-tracks.ensures.value c.slot_count-slots.ensures c.measure_objects.ensures

pub returns-clause-measured : goal.returns-clause-measured
returns-clause-measured g c = all_measured c.args.problem.now c.measure_objects.result
    (of_problem c.args.problem.now c.as_slice-tracks.result.now c.slot_count-slots.result c.measure_objects.result c.as_slice-tracks.ensures.value c.slot_count-slots.ensures c.measure_objects.ensures)
