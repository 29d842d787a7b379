use Rattle.cj_brief_checker.proofs.FirstLemmas.{first_law}
use Rattle.cj_brief_checker.proofs.laws.acceptance_in_brief.Goals as goal

pub returns : goal.returns
returns c case brief = first_law case brief
