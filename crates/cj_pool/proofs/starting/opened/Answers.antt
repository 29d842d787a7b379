use Rattle.cj_pool.proofs.starting.opened.Goals as goal

pub deal-requires-clause-workers : goal.deal-requires-clause-workers
deal-requires-clause-workers g c _ _ = c.requires.workers

pub deal-requires-clause-roots : goal.deal-requires-clause-roots
deal-requires-clause-roots g c _ _ = c.requires.roots

pub deal-requires-clause-len : goal.deal-requires-clause-len
deal-requires-clause-len g c _ _ = c.in_ok-unopened.ensures.len

pub deal-requires-clause-stations : goal.deal-requires-clause-stations
deal-requires-clause-stations g c _ _ = c.in_ok-unopened.ensures.stations

pub deal-requires-clause-unopened : goal.deal-requires-clause-unopened
deal-requires-clause-unopened g c _ _ = c.in_ok-unopened.ensures.unopened

pub returns-clause-len : goal.returns-clause-len
returns-clause-len g c = c.deal.ensures.len

pub returns-clause-stations : goal.returns-clause-stations
returns-clause-stations g c = c.deal.ensures.stations

pub returns-clause-dealt : goal.returns-clause-dealt
returns-clause-dealt g c = c.deal.ensures.dealt

pub returns-clause-unused : goal.returns-clause-unused
returns-clause-unused g c = c.deal.ensures.unused c.in_ok-unopened.ensures.unused
