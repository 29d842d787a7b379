use Rattle.std.proofs.Common.{arith, ◌≤◌}
use Rattle.std.proofs.lemmas.Bool.Decides.{nat_tests}
use Rattle.std.proofs.lemmas.Int.{ints}
use Rattle.cj_epoch.proofs.YearLemmas.{date_read}
use Rattle.cj_epoch.proofs.days.day_at_date.Goals as goal

pub returns-in-Ok-clause-value : goal.returns-in-Ok-clause-value
returns-in-Ok-clause-value c =
    let low : 1972 ≤ c.args.year = grind (arith, nat_tests) in
    let high : c.args.year ≤ 2099 = grind (arith, nat_tests) in
    date_read c.args.year c.args.month c.args.day c.days_before.result c.in-Ok.date low high
    (omega (arith, ints, c.in-Ok.ensures.value.0))
    (omega (arith, ints, c.in-Ok.ensures.value.1))
    (omega (arith, ints, c.in-Ok.ensures.value.2))
    c.days_before.ensures.value

pub returns-in-Ok-clause-range : goal.returns-in-Ok-clause-range
returns-in-Ok-clause-range c = c.days_before.ensures.range
