use Rattle.std.proofs.Common.{◌≡◌, ◌*◌, ◌≤◌, ap, sym, subst, ◌∙◌, arith, to_z, of_z}
use Rattle.std.proofs.lemmas.Int.{ints}
use Rattle.std.specs.Prelude.{ℤ, pos, unsigned_abs, ◌+ℤ◌, ◌*ℤ◌}
use mir.Syntax.{w128}
use Rattle.cj_interval.specs.Rounding.{floor_div}
use Rattle.cj_interval.specs.Sizes.{IsWithin}
use Rattle.cj_interval.proofs.RoundingLemmas.{floor_div-gt, floor_div-le}
use Rattle.cj_interval.proofs.SizeLemmas.{floor_div_within}
use Rattle.cj_rtn.specs.States.{middle}
use Rattle.cj_rtn.proofs.states.middle.Goals as goal

pub returns-clause-value : goal.returns-clause-value
unfolding middle
returns-clause-value c =
    let lo = c.args.span.lo in
    let hi = c.args.span.hi in
    let low : to_z w128 (of_z w128 lo) ≡ lo = omega (arith, ints, c.requires.low) in
    let high : to_z w128 (of_z w128 hi) ≡ hi = omega (arith, ints, c.requires.high) in
    let sum : lo *ℤ pos 1 +ℤ hi *ℤ pos 1 ≡ lo +ℤ hi = omega (arith, ints) in
    let value : c.between.result.lo ≡ floor_div (lo +ℤ hi) 2 =
    c.between.ensures.lower
    ∙ ap (λ z. floor_div (z *ℤ pos 1 +ℤ to_z w128 (of_z w128 hi) *ℤ pos 1) 2) low
    ∙ ap (λ z. floor_div (lo *ℤ pos 1 +ℤ z *ℤ pos 1) 2) high
    ∙ ap (λ z. floor_div z 2) sum in
    let below = floor_div-le (lo +ℤ hi) 2 (omega arith) in
    let above = floor_div-gt (lo +ℤ hi) 2 (omega arith) in
    let back : to_z w128 (of_z w128 c.between.result.lo) ≡ c.between.result.lo = omega (arith, ints, value, below, above, c.requires.low, c.requires.high) in
    back ∙ value

pub returns-clause-within : goal.returns-clause-within
unfolding middle
returns-clause-within c m h =
    let lo = c.args.span.lo in
    let hi = c.args.span.hi in
    let sum : unsigned_abs (lo +ℤ hi) ≤ m * 2 = omega (arith, ints, h.low, h.high) in
    subst (λ (z : ℤ). IsWithin m z) (sym (returns-clause-value c)) (floor_div_within (lo +ℤ hi) 2 m (omega arith) sum)
