use Rattle.std.proofs.Common.{vec_len}
use Rattle.cj_case.specs.Problems.{plain_problem}
use Rattle.cj_pool.specs.Refined.{in_runs}
use Rattle.cj_pool.proofs.TakeLemmas.{AreTaken}
use Rattle.cj_pool.proofs.taking.take_apart.Given as goal

abbrev pub invariant-loop-refinery : goal.invariant-loop-refinery
invariant-loop-refinery g l =
    AreTaken (plain_problem g.K.Run.problem) g.K.Run.roots g.K.Run.workers l.refinery l.initial.hands.items l.hands.items l.parts.stations.items l.parts.shares.items (in_runs l.parts.runs.items) l.parts.kept.items

abbrev pub decreases-loop-refinery : goal.decreases-loop-refinery
decreases-loop-refinery g l = vec_len l.hands
