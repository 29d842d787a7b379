use Rattle.cj_hermite.proofs.SearchLemmas.{from_tests}
use Rattle.cj_hermite.proofs.searches.is_last_reached.Goals as goal

pub returns-then-is_reached-clause-from : goal.returns-then-is_reached-clause-from
returns-then-is_reached-clause-from c h d =
    from_tests c.args.at.micros c.args.number c.args.nodes.now d c.is_reached.result c.is_reached-then-is_reached.result c.requires.within c.is_reached.ensures
    c.is_reached-then-is_reached.ensures c.if-is_reached.true h
