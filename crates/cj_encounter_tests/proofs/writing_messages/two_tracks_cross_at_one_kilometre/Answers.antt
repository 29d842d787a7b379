use Rattle.std.proofs.Common.{refl}
use Rattle.cj_base.specs.Decimals.{is_huge, is_tiny}
use Rattle.cj_encounter_tests.proofs.writing_messages.two_tracks_cross_at_one_kilometre.Goals as goal

pub matrix-b-requires-clause-second : goal.matrix-b-requires-clause-second
unfolding is_tiny is_huge
matrix-b-requires-clause-second c = λ later. (refl, refl)

pub matrix-b-requires-clause-third : goal.matrix-b-requires-clause-third
unfolding is_tiny is_huge
matrix-b-requires-clause-third c = λ later. (refl, refl)
