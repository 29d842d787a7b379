use Rattle.std.proofs.Common.{vec_len}
use Rattle.cj_pool.proofs.PartLemmas.{ArePart}
use Rattle.cj_pool.proofs.joining.part_with.Given as goal

abbrev pub invariant-loop-pass : goal.invariant-loop-pass
invariant-loop-pass g l = ArePart g.K.Run.workers l.initial.stations l.initial.last l.stations l.last

abbrev pub decreases-loop-pass : goal.decreases-loop-pass
decreases-loop-pass g l = vec_len l.last.below
