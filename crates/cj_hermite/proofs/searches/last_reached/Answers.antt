use Rattle.cj_hermite.proofs.SearchLemmas.{some_reached, from_reached}
use Rattle.cj_hermite.proofs.searches.last_reached.Goals as goal

pub overflow_sub-reached : goal.overflow_sub-reached
overflow_sub-reached c = some_reached c.args.at.micros c.reached.result c.args.nodes.now c.requires.nodes c.requires.within c.reached.ensures.reached

pub returns-clause-from : goal.returns-clause-from
returns-clause-from c = λ d.
    from_reached c.args.at.micros c.reached.result c.min.result c.args.nodes.now d c.requires.nodes c.requires.within c.reached.ensures.reached c.reached.ensures.bound c.min.ensures
