use Rattle.std.proofs.Common.{◌≡◌, ◌^◌, arith, sym, ap, subst, ◌∙◌, to_z-of_z}
use Rattle.std.specs.Prelude.{ℤ, ℕ}
use Rattle.cj_interval.specs.Rounding.{floor_div}
use Rattle.cj_interval.specs.Sizes.{IsWithin}
use Rattle.cj_interval.proofs.MachineLemmas.{back, short_fits}
use Rattle.cj_rtn.specs.Vectors.{along, dot}
use Rattle.cj_rtn.proofs.SizeLemmas.{along_within}
use Rattle.cj_rtn.proofs.vectors.along.Goals as goal

value : (c : goal.After-quotient) → c.quotient.result ≡ along c.args.x.now c.args.b.now
unfolding along
value c =
    c.quotient.ensures
    ∙ ap (λ (z : ℤ). floor_div z c.size.result) (back c.dot.result (omega (arith, c.dot.ensures.within)) ∙ c.dot.ensures.value)
    ∙ ap (λ (n : ℕ). floor_div (dot c.args.x.now c.args.b.now) n) c.size.ensures

within : (c : goal.After-quotient) → IsWithin (2 ^ 62) c.quotient.result
within c = subst (IsWithin (2 ^ 62)) (sym (value c)) (along_within c.args.x.now c.args.b.now c.requires.some c.requires.near)

pub overflow_cast-result : goal.overflow_cast-result
overflow_cast-result c = short_fits c.quotient.result (within c)

pub returns : goal.returns
returns c = to_z-of_z (short_fits c.quotient.result (within c)) ∙ back c.quotient.result (omega (arith, within c)) ∙ value c
