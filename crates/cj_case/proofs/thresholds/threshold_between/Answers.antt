use Rattle.std.proofs.Common.{refl}
use Rattle.cj_case.proofs.thresholds.threshold_between.Goals as goal

pub returns-clause-value : goal.returns-clause-value
returns-clause-value c = refl
