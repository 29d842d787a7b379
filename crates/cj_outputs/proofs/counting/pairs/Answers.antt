use Rattle.std.proofs.Common.{arith}
use Rattle.cj_outputs.proofs.PrimaryCountLemmas.{few_secondaries, pairs_concerned}
use Rattle.cj_outputs.proofs.counting.pairs.Goals as goal

pub pairs_of_many-requires-2 : goal.pairs_of_many-requires-2
pairs_of_many-requires-2 c = omega (arith, few_secondaries c.args.primaries.now c.args.objects c.requires.marked, c.secondaries.ensures, c.requires.few)

pub overflow_sub-result : goal.overflow_sub-result
overflow_sub-result c = (pairs_concerned c.args.primaries.now c.args.objects c.pairs_of_many.result c.pairs_of_many-2.result c.requires.marked c.pairs_of_many.ensures (rw c.secondaries.ensures at c.pairs_of_many-2.ensures)).0

pub returns : goal.returns
returns c = (pairs_concerned c.args.primaries.now c.args.objects c.pairs_of_many.result c.pairs_of_many-2.result c.requires.marked c.pairs_of_many.ensures (rw c.secondaries.ensures at c.pairs_of_many-2.ensures)).1
