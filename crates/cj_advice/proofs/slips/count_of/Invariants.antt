use Rattle.std.proofs.Common.{length}
use Rattle.cj_advice.proofs.slips.count_of.Given as goal

abbrev pub decreases-loop-front : goal.decreases-loop-front
decreases-loop-front l = length l.rest
