use Rattle.std.proofs.Common.{sym, subst, ◌∙◌, FitsSigned, to_z-of_z}
use Rattle.std.proofs.lemmas.Int.{fits_signed_from_abs}
use Rattle.std.specs.Prelude.{ℤ, pos}
use Rattle.std.specs.Int.{w64}
use Rattle.cj_interval.specs.Sizes.{IsWithin}
use Rattle.cj_hermite.proofs.ReachLemmas.{covered_fits, covered_read, covered_size, ticks_fit}
use Rattle.cj_hermite.proofs.first_values.covered.Goals as goal

pub overflow_cast-result : goal.overflow_cast-result
overflow_cast-result c = fits_signed_from_abs w64 (pos c.args.ticks) (ticks_fit c.args.ticks c.requires.short)

pub overflow_mul-result : goal.overflow_mul-result
overflow_mul-result c =
    subst (λ (z : ℤ). FitsSigned w64 z) (sym (covered_read c.args.whole c.args.ticks c.ranges.whole c.requires.short)) (covered_fits c.args.whole c.args.ticks c.requires.few c.requires.short)

pub returns-clause-value : goal.returns-clause-value
returns-clause-value c = to_z-of_z (overflow_mul-result c) ∙ covered_read c.args.whole c.args.ticks c.ranges.whole c.requires.short

pub returns-clause-within : goal.returns-clause-within
returns-clause-within c = subst (IsWithin 24000001200000000) (sym (returns-clause-value c)) (covered_size c.args.whole c.args.ticks c.requires.few c.requires.short)
