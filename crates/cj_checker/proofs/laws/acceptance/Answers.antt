use Rattle.cj_checker.proofs.FirstLemmas.{first_law}
use Rattle.cj_checker.proofs.laws.acceptance.Goals as goal

pub returns : goal.returns
returns c = first_law
