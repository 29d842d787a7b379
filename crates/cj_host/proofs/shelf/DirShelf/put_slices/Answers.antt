use Rattle.cj_host.proofs.shelf.DirShelf.put_slices.Goals as goal

pub returns-clause-failed : goal.returns-clause-failed
returns-clause-failed g c = c.end.ensures.failed

pub returns-clause-memory : goal.returns-clause-memory
returns-clause-memory g c = c.end.ensures.memory

pub returns-clause-later : goal.returns-clause-later
returns-clause-later g c = c.end.ensures.later
