use Rattle.std.proofs.Common.{refl}
use Rattle.cj_base.specs.Decimals.{is_huge, is_tiny}
use Rattle.cj_encounter_tests.proofs.choosing.covariance.Goals as goal

pub matrix-requires-clause-second : goal.matrix-requires-clause-second
unfolding is_tiny is_huge
matrix-requires-clause-second c = λ later. (refl, refl)

pub matrix-requires-clause-third : goal.matrix-requires-clause-third
unfolding is_tiny is_huge
matrix-requires-clause-third c = λ later. (refl, refl)
