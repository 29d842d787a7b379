use Rattle.std.proofs.Common.{arith}
use Rattle.cj_host.proofs.folder.names_of.Goals as goal

pub returns : goal.returns
returns c = omega (arith, c.loop-file.invariant, c.loop-file.auto.file-index-end, c.loop-file-test.false)
