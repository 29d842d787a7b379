use Rattle.std.proofs.Common.{ap, ◌∙◌}
use Rattle.cj_case.specs.declared.problem.Problem.{Problem}
use Rattle.cj_case.specs.Problems.{plain_problem}
use Rattle.cj_cdm.specs.Building.{object_covariance}
use Rattle.cj_cdm.proofs.SideLemmas.{covariance_there}
use Rattle.cj_cdm.proofs.covariance_index.CovarianceIndex.at.Goals as goal

pub returns-in-Some : goal.returns-in-Some
returns-in-Some c = c.at.ensures ∙ covariance_there c.args.self.now.tracks c.args.object c.args.at.micros c.in-Some.covariances.now c.in-Some.ensures

pub returns-in-None : goal.returns-in-None
returns-in-None c = c.object_covariance.ensures ∙ ap (λ (p : Problem). object_covariance (plain_problem p) c.args.object c.args.at.micros) c.problem.ensures
