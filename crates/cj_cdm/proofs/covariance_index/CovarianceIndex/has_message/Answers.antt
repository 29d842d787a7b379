use Rattle.std.proofs.Common.{Bool, ◌&&◌, ap, sym, ◌∙◌}
use Rattle.std.specs.Prelude.{is_some}
use Rattle.cj_case.specs.Problems.{plain_problem}
use Rattle.cj_cdm.specs.Building.{object_covariance}
use Rattle.cj_cdm.proofs.covariance_index.CovarianceIndex.has_message.Goals as goal

pub returns-then-has_covariance : goal.returns-then-has_covariance
returns-then-has_covariance c =
    let other = is_some (object_covariance (plain_problem c.args.self.now) c.args.pair.b c.args.tca.micros) in
    c.has_covariance-then-has_covariance.ensures ∙ ap (λ (b : Bool). b && other) (sym c.if-has_covariance.true ∙ c.has_covariance.ensures)

pub returns-else-has_covariance : goal.returns-else-has_covariance
returns-else-has_covariance c =
    let other = is_some (object_covariance (plain_problem c.args.self.now) c.args.pair.b c.args.tca.micros) in
    c.if-has_covariance.false ∙ ap (λ (b : Bool). b && other) (sym c.if-has_covariance.false ∙ c.has_covariance.ensures)
