use Rattle.cj_sizes.proofs.RowLemmas.{two_alone, three_are_not_two}
use Rattle.cj_sizes.proofs.rows.two_fields.Goals as goal

pub returns-in-None-clause-exact : goal.returns-in-None-clause-exact
returns-in-None-clause-exact c = two_alone _ _ _ c.in_ok-id.ensures.exact c.in_ok-metres.ensures.exact c.in-None.ensures.exact

pub returns-in-Some-clause-exact : goal.returns-in-Some-clause-exact
returns-in-Some-clause-exact c = three_are_not_two _ _ c.in-Some.ensures.exact

pub returns-in_err-id-clause-within : goal.returns-in_err-id-clause-within
returns-in_err-id-clause-within c = rw c.from_residual.ensures tt

pub returns-in_err-metres-clause-within : goal.returns-in_err-metres-clause-within
returns-in_err-metres-clause-within c = rw c.from_residual-in_err-metres.ensures tt
