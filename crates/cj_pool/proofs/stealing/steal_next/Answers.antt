use Rattle.std.proofs.Common.{◌+◌, ◌∙◌, sym}
use Rattle.crossbeam_deque.specs.Handles.{stealer_deque}
use Rattle.cj_pool.proofs.PassLemmas.{map_from, map_take}
use Rattle.cj_pool.proofs.stealing.steal_next.Goals as goal

pub steal_round-requires-clause-deques : goal.steal_round-requires-clause-deques
steal_round-requires-clause-deques g c = c.requires.above.0 ∙ sym (map_from stealer_deque (c.args.number + 1) c.args.thieves.now)

pub steal_round-requires-2-clause-deques : goal.steal_round-requires-2-clause-deques
steal_round-requires-2-clause-deques g c = c.requires.below.0 ∙ sym (map_take stealer_deque c.args.number c.args.thieves.now)
