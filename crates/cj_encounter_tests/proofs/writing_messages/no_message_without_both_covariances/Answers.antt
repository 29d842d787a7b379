use Rattle.std.proofs.Common.{refl}
use Rattle.cj_base.specs.Decimals.{is_huge, is_tiny}
use Rattle.cj_encounter_tests.proofs.writing_messages.no_message_without_both_covariances.Goals as goal

pub matrix-a-requires-clause-first : goal.matrix-a-requires-clause-first
unfolding is_tiny is_huge
matrix-a-requires-clause-first c = λ later. (refl, refl)

pub matrix-a-requires-clause-second : goal.matrix-a-requires-clause-second
unfolding is_tiny is_huge
matrix-a-requires-clause-second c = λ later. (refl, refl)

pub matrix-a-requires-clause-third : goal.matrix-a-requires-clause-third
unfolding is_tiny is_huge
matrix-a-requires-clause-third c = λ later. (refl, refl)
