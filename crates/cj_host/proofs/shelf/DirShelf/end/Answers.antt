use Rattle.cj_host.proofs.FaultLemmas.{no_error, no_fault, no_want, rises}
use Rattle.cj_host.proofs.shelf.DirShelf.end.Goals as goal

pub returns-in-Ok-clause-failed : goal.returns-in-Ok-clause-failed
returns-in-Ok-clause-failed g c = λ is. absurd (no_error is)

pub returns-in-Err-Memory-clause-failed : goal.returns-in-Err-Memory-clause-failed
returns-in-Err-Memory-clause-failed g c = λ is. absurd (no_fault is)

pub returns-in-Err-Fault-clause-failed : goal.returns-in-Err-Fault-clause-failed
returns-in-Err-Fault-clause-failed g c = λ is. rises c.args.self.now.faults c.saturating_add-self.result c.saturating_add-self.ensures

pub returns-in-Err-Fault-clause-memory : goal.returns-in-Err-Fault-clause-memory
returns-in-Err-Fault-clause-memory g c = λ is. absurd (no_want is)
