use Rattle.std.proofs.Common.{arith, ◌≡◌, ◌∙◌, sym, ap, ℕ, suc, ◌-◌, ◌^◌, ◌≤◌, subst}
use Rattle.std.proofs.lemmas.Int.{ints}
use Rattle.std.specs.Option.{SomeIff}
use Rattle.cj_kvn.specs.Numbers.{nearest}
use Rattle.cj_kvn.proofs.ScalingLemmas.{scaled_up, scaled_down}
use Rattle.cj_kvn.proofs.scaling.scaled_size_of.Goals as goal

pub returns-then-power-ge0-clause-value : goal.returns-then-power-ge0-clause-value
returns-then-power-ge0-clause-value c n b = scaled_up c.args.number n c.args.places _ c.raised.result b (omega (arith, ints)) c.raised.ensures

pub returns-else-power-ge0-clause-value : goal.returns-else-power-ge0-clause-value
returns-else-power-ge0-clause-value c n b =
    let k = c.unsigned_abs.result - 1 in
    let past : suc k ≡ c.unsigned_abs.result = omega (arith, ints) in
    let down = scaled_down c.args.number n c.args.places k b (omega (arith, ints)) in
    let same = c.lowered.ensures ∙ ap (λ (j : ℕ). nearest c.args.number.leading (10 ^ j)) (sym past) ∙ sym down in
    subst (λ (size : ℕ). SomeIff c.at_most_limit.result (size ≤ 10 ^ 36) size) same c.at_most_limit.ensures
