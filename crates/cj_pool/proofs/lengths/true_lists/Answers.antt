use Rattle.cj_case.specs.Problems.{plain_problem}
use Rattle.cj_pool.proofs.TrueListLemmas.{true_list}
use Rattle.cj_pool.proofs.lengths.true_lists.Goals as goal

pub returns : goal.returns
returns c = true_list (plain_problem c.args.problem.now) c.have_lengths.ensures c.args.problem.now.least
