use Rattle.cj_advice.proofs.CauseLemmas.{each_named}
use Rattle.cj_advice.proofs.found.cause_named.Goals as goal

pub returns-clause-each : goal.returns-clause-each
returns-clause-each c = λ cause is. each_named c.args.word.now c.first_named.result cause c.first_named.ensures is
