use Rattle.std.proofs.Common.{arith, sym}
use Rattle.std.proofs.lemmas.Int.{ints}
use Rattle.cj_base.specs.Decimals.{number_of}
use Rattle.cj_kvn.proofs.PowerLemmas.{ten_more}
use Rattle.cj_kvn.proofs.PrintLemmas.{power_of_zero, power_of_first, few_digits}
use Rattle.cj_kvn.proofs.printing.leading_power.Goals as goal

pub returns-then-value-eq0-clause-value : goal.returns-then-value-eq0-clause-value
returns-then-value-eq0-clause-value c = sym (power_of_zero (number_of c.args.value) c.if-value-eq0.true)

pub returns-else-value-eq0-clause-value : goal.returns-else-value-eq0-clause-value
returns-else-value-eq0-clause-value c =
    let k = c.ilog10.result in
    let few = few_digits c.args.value.digits k c.ilog10.ensures.power_le c.args.value.short in
    let first = power_of_first (number_of c.args.value) k (omega arith) c.ilog10.ensures.power_le (omega (arith, ten_more k, c.ilog10.ensures.next_power_gt)) in
    omega (arith, ints, first)

pub returns-else-value-eq0-clause-high : goal.returns-else-value-eq0-clause-high
returns-else-value-eq0-clause-high c = omega (arith, ints, few_digits c.args.value.digits c.ilog10.result c.ilog10.ensures.power_le c.args.value.short)
