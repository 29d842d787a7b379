use Rattle.std.proofs.Common.{arith, ◌∙◌}
use Rattle.cj_kvn.proofs.PowerLemmas.{get_tenfold}
use Rattle.cj_kvn.proofs.powers.ten_to.Goals as goal

pub returns : goal.returns
returns c = get_tenfold 39 1 c.args.power _ (omega arith) ∙ omega arith
