use Rattle.cj_io.proofs.stream_shelf.StreamShelf.put_made.Goals as goal

pub returns-clause-failed : goal.returns-clause-failed
returns-clause-failed g c = c.put_parts.ensures.failed

pub returns-clause-memory : goal.returns-clause-memory
returns-clause-memory g c = c.put_parts.ensures.memory

pub returns-clause-later : goal.returns-clause-later
returns-clause-later g c = c.put_parts.ensures.later

pub returns-clause-outputs : goal.returns-clause-outputs
returns-clause-outputs g c = rw (c.deref.ensures.value, c.in_ok-parts.ensures) at c.put_parts.ensures.outputs
