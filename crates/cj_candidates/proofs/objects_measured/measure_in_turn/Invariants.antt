use Rattle.cj_candidates.proofs.MeasuredLemmas.{AreSoFar}
use Rattle.cj_candidates.proofs.objects_measured.measure_in_turn.Given as goal

abbrev pub invariant-loop-track : goal.invariant-loop-track
invariant-loop-track l = AreSoFar l.tracks l.objects.items l.window.first.micros l.window.last.micros l.slots l.track-index
