use Rattle.cj_host.proofs.FaultLemmas.{rises}
use Rattle.cj_host.proofs.folder.DirFolder.keep.Goals as goal

pub returns-then-len-clause-failed : goal.returns-then-len-clause-failed
returns-then-len-clause-failed c = λ is. rises c.args.self.now.faults c.saturating_add-self.result c.saturating_add-self.ensures
