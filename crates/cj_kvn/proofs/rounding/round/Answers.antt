use Rattle.cj_kvn.proofs.DecimalLemmas.{zero_readable}
use Rattle.cj_kvn.proofs.rounding.round.Goals as goal

pub returns-then-is_below_least-clause-readable : goal.returns-then-is_below_least-clause-readable
returns-then-is_below_least-clause-readable c = zero_readable
