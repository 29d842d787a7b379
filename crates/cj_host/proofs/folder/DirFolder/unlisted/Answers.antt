use Rattle.cj_host.proofs.FaultLemmas.{rises}
use Rattle.cj_host.proofs.folder.DirFolder.unlisted.Goals as goal

pub returns-clause-failed : goal.returns-clause-failed
returns-clause-failed c = λ is. rises c.args.self.now.faults c.saturating_add-self.result c.saturating_add-self.ensures
