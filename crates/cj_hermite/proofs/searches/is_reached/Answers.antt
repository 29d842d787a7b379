use Rattle.std.proofs.Common.{◌-◌, length, arith}
use Rattle.std.proofs.lemmas.Bool.{le-ltb}
use Rattle.cj_hermite.proofs.SearchLemmas.{reached_is, not_reached}
use Rattle.cj_hermite.proofs.searches.is_reached.Goals as goal

pub returns-then-number-nodes : goal.returns-then-number-nodes
returns-then-number-nodes c = reached_is c.args.at.micros c.args.number c.args.nodes.now c.index-nodes-number.result (omega arith)

pub returns-else-number-nodes : goal.returns-else-number-nodes
returns-else-number-nodes c = not_reached c.args.at.micros c.args.number c.args.nodes.now _ (le-ltb c.args.number (length c.args.nodes.now - 1) (omega arith)) (omega arith)
