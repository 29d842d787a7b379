use Rattle.std.proofs.Common.{arith, ◌≡◌, ◌<◌, ◌*◌, ◌^◌, ◌-◌, ◌∙◌, length, ap, ℕ}
use Rattle.cj_epoch.proofs.DigitLemmas.{room_for, micros_is}
use Rattle.cj_epoch.proofs.reading.micros_of.Goals as goal

small : (c : goal.After-number_from_digits) → c.number_from_digits.result * 10 ^ (6 - length c.split_at.result.0.now) < 10 ^ 6
small c = room_for c.number_from_digits.result (length c.split_at.result.0.now) (6 - length c.split_at.result.0.now) 6 c.number_from_digits.ensures.small (omega arith)

pub raised-requires-clause-room : goal.raised-requires-clause-room
raised-requires-clause-room c = omega (arith, small c)

pub returns-then-are_zeros-clause-range : goal.returns-then-are_zeros-clause-range
returns-then-are_zeros-clause-range c =
    omega (arith, room_for c.number_from_digits.result (length c.split_at.result.0.now) (6 - length c.split_at.result.0.now) 6 c.number_from_digits.ensures.small (omega arith))

pub returns-then-are_zeros-clause-value : goal.returns-then-are_zeros-clause-value
returns-then-are_zeros-clause-value c =
    let shortest : length c.split_at.result.0.now ≡ c.min.result = omega arith in
    micros_is c.args.decimals.now c.min.result c.number_from_digits.result c.raised.result (omega arith) (cc) (cc)
    (c.raised.ensures ∙ ap (λ (n : ℕ). c.number_from_digits.result * 10 ^ (6 - n)) shortest)
