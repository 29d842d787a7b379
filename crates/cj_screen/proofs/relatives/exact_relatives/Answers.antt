use Rattle.cj_case.specs.Problems.{plain_problem}
use Rattle.cj_cells.specs.Lists.{list_candidates}
use Rattle.cj_screen.proofs.RelativeLemmas.{all_exact}
use Rattle.cj_screen.proofs.relatives.exact_relatives.Goals as goal

pub returns : goal.returns
returns c = λ sound nearest.
    let problem = c.args.problem.now in
    let case = plain_problem problem in
    all_exact case (list_candidates case) c.exactness.ensures problem.most c.as_slice-sizes.ensures.within sound nearest
