use Rattle.cj_case.specs.Problems.{plain_problem}
use Rattle.cj_hermite.proofs.WholeLemmas.{whole_is_over}
use Rattle.cj_slabs.proofs.cutting.cut_at.Goals as goal

pub piece_of-requires : goal.piece_of-requires
piece_of-requires c = c.requires.whole.state

pub cut_of-requires-clause-over : goal.cut_of-requires-clause-over
cut_of-requires-clause-over c =
    whole_is_over (plain_problem c.args.problem.now) c.args.object c.args.first.micros c.args.last.micros c.piece_of.result c.requires.order c.requires.whole c.piece_of.ensures

pub returns : goal.returns
returns c = c.cut_of.ensures (plain_problem c.args.problem.now) c.requires.whole c.piece_of.ensures
