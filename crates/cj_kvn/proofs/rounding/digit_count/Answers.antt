use Rattle.std.proofs.Common.{arith, ap, sym, ◌∙◌}
use Rattle.cj_kvn.specs.Decimals.{digit_count}
use Rattle.cj_kvn.proofs.CountLemmas.{count_zero, count_is}
use Rattle.cj_kvn.proofs.PowerLemmas.{ten_more}
use Rattle.cj_kvn.proofs.rounding.digit_count.Goals as goal

pub returns-then-number-eq0-clause-value : goal.returns-then-number-eq0-clause-value
returns-then-number-eq0-clause-value c = sym (ap digit_count c.if-number-eq0.true ∙ count_zero)

pub returns-else-number-eq0-clause-value : goal.returns-else-number-eq0-clause-value
returns-else-number-eq0-clause-value c =
    let power = c.ilog10.result in
    sym (count_is c.args.number power c.ilog10.ensures.power_le (omega (arith, ten_more power, c.ilog10.ensures.next_power_gt)))
