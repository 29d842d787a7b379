use Rattle.std.proofs.Common.{sym, ◌∙◌}
use Rattle.cj_kvn.specs.Decimals.{decimal_form}
use Rattle.cj_kvn.specs.Numbers.{number, parts_of}
use Rattle.cj_kvn.proofs.ReadableLemmas.{decimal_of_number, only_decimal, read_high, read_low}
use Rattle.cj_kvn.proofs.rounding.read_decimal.Goals as goal

pub returns-in-Some-clause-only : goal.returns-in-Some-clause-only
returns-in-Some-clause-only c d h =
    let text = c.args.text.now in
    let n = number (parts_of text) in
    only_decimal c.round.result (decimal_form n) d (c.round.ensures.exact n c.in-Some.ensures.1) (sym (decimal_of_number text c.in-Some.ensures.0) ∙ h)

pub returns-in-Some-clause-low : goal.returns-in-Some-clause-low
returns-in-Some-clause-low c = read_low c.round.result c.round.ensures.readable

pub returns-in-Some-clause-high : goal.returns-in-Some-clause-high
returns-in-Some-clause-high c = read_high c.round.result c.round.ensures.readable
