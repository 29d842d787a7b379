use Rattle.std.proofs.Common.{drop, length-append, arith}
use Rattle.cj_host.proofs.FaultLemmas.{not_told, rises}
use Rattle.cj_host.proofs.folder.DirFolderFolder.read.Goals as goal

pub returns-in-Ok-clause-within : goal.returns-in-Ok-clause-within
returns-in-Ok-clause-within c = omega (arith, c.in-Ok.ensures, length-append c.read_at.new.buf (drop c.min-most.result c.args.buf.now))

pub returns-in-Ok-clause-told : goal.returns-in-Ok-clause-told
returns-in-Ok-clause-told c = λ files told. absurd (not_told told)

pub returns-in-Err-clause-failed : goal.returns-in-Err-clause-failed
returns-in-Err-clause-failed c = rises c.args.self.now.faults c.saturating_add-self.result c.saturating_add-self.ensures
