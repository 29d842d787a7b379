use Rattle.std.proofs.Common.{length}
use Rattle.cj_program_tests.proofs.examples.with_bytes.Given as goal

abbrev pub decreases-loop-first : goal.decreases-loop-first
decreases-loop-first l = length l.rest
