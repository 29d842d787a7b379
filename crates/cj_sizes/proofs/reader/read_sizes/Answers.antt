use Rattle.std.proofs.Common.{sym, subst}
use Rattle.cj_kvn.specs.Faults.{Gives}
use Rattle.cj_sizes.proofs.FileLemmas.{by_said, gives_says, says_gives, sizes_in}
use Rattle.cj_sizes.proofs.reader.read_sizes.Goals as goal

pub returns-clause-value : goal.returns-clause-value
returns-clause-value c = subst (Gives sizes_in c.sizes_said.result) (sym (by_said c.args.bytes.now)) c.sizes_said.ensures

pub returns-clause-says : goal.returns-clause-says
returns-clause-says c = gives_says c.args.bytes.now c.sizes_said.result (returns-clause-value c)

pub returns-clause-accepts : goal.returns-clause-accepts
returns-clause-accepts c = λ sizes says. says_gives c.args.bytes.now sizes c.sizes_said.result says (returns-clause-value c)
