use Rattle.std.proofs.Common.{arith, ◌∙◌, ap, ℕ, ◌-◌, ◌^◌}
use Rattle.std.proofs.lemmas.Int.{ints}
use Rattle.cj_kvn.specs.Numbers.{nearest}
use Rattle.cj_kvn.proofs.DecimalLemmas.{rounded_at, rounded_above}
use Rattle.cj_kvn.proofs.rounding.shortened.Goals as goal

pub returns-clause-value : goal.returns-clause-value
returns-clause-value c n b =
    let dropped = c.saturating_sub-dropped.ensures ∙ ap (λ (k : ℕ). k - 18) c.digit_count.ensures.value in
    let digits = c.rounded_digits.ensures.value ∙ ap (λ (k : ℕ). nearest c.args.number.leading (10 ^ k)) dropped in
    rounded_at c.args.number n _ _ b c.requires digits (omega (arith, ints, c.from.ensures, dropped))

pub returns-clause-above : goal.returns-clause-above
returns-clause-above c above =
    let dropped = c.saturating_sub-dropped.ensures ∙ ap (λ (k : ℕ). k - 18) c.digit_count.ensures.value in
    let digits = c.rounded_digits.ensures.value ∙ ap (λ (k : ℕ). nearest c.args.number.leading (10 ^ k)) dropped in
    rounded_above c.args.number _ _ c.requires c.rounded_digits.ensures.some digits (omega (arith, ints, c.from.ensures, dropped)) above
