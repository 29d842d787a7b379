use Rattle.std.proofs.Common.{◌-◌, refl, sym, ap, ◌∙◌, FitsSigned, to_z-of_z}
use Rattle.std.proofs.lemmas.Int.{fits_signed_from_abs}
use Rattle.std.specs.Prelude.{ℤ, pos, ◌+ℤ◌, ◌*ℤ◌}
use Rattle.std.specs.Int.{w64}
use Rattle.cj_hermite.proofs.ReachLemmas.{carry, once_smaller, one_more_fits}
use Rattle.cj_hermite.proofs.first_values.once_less.Goals as goal

pub overflow_add-result : goal.overflow_add-result
overflow_add-result c =
    let f : FitsSigned w64 c.args.whole = c.ranges.whole in
    rw (to_z-of_z f) (fits_signed_from_abs w64 (c.args.whole +ℤ pos 1) (one_more_fits c.args.whole c.requires.within))

pub returns-then-rest-of-clause-value : goal.returns-then-rest-of-clause-value
returns-then-rest-of-clause-value c =
    let f : FitsSigned w64 c.args.whole = c.ranges.whole in
    rw (to_z-of_z f) refl

pub returns-else-rest-of-clause-value : goal.returns-else-rest-of-clause-value
returns-else-rest-of-clause-value c =
    carry c.args.whole c.args.rest c.args.of c.if-rest-of.false
    ∙ sym (ap (λ (z : ℤ). z *ℤ pos c.args.of +ℤ pos (c.args.rest - c.args.of)) (to_z-of_z (overflow_add-result c) ∙ ap (λ (z : ℤ). z +ℤ pos 1) (to_z-of_z c.ranges.whole)))

pub returns-else-rest-of-clause-rest : goal.returns-else-rest-of-clause-rest
returns-else-rest-of-clause-rest c = once_smaller c.args.rest c.args.of c.if-rest-of.false c.requires.small
