use Rattle.std.proofs.Common.{length}
use Rattle.cj_advice.proofs.slips.slip_in_options.Given as goal

abbrev pub decreases-loop-front : goal.decreases-loop-front
decreases-loop-front l = length l.rest
