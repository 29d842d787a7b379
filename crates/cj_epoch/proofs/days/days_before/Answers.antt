use Rattle.std.proofs.Common.{arith, ◌≡◌, ◌+◌, ◌≤◌}
use Rattle.jiff_core.specs.Calendar.{day_count}
use Rattle.jiff_core.proofs.CalendarLemmas.{days_from_civil-day_count}
use Rattle.jiff_core.proofs.SignedLemmas.{signed_arith}
use Rattle.cj_epoch.proofs.YearLemmas.{date_within}
use Rattle.cj_epoch.proofs.days.days_before.Goals as goal

count : (c : goal.After-days_since_min) → day_count c.args.date.year c.args.date.month c.args.date.day ≡ c.days_since_min.result + 366
count c = omega (arith, signed_arith, days_from_civil-day_count c.args.date.year c.args.date.month c.args.date.day, c.days_since_min.ensures.value)

among_ticks : (c : goal.After-days_since_min) → (4_372_317 ≤ c.days_since_min.result) × (c.days_since_min.result ≤ 4_419_068)
among_ticks c =
    let within = date_within c.args.date (c.days_since_min.result + 366) c.requires.low c.requires.high (count c) in
    (omega (arith, within.0), omega (arith, within.1))

pub overflow_sub-result : goal.overflow_sub-result
overflow_sub-result c = omega (arith, among_ticks c)

pub returns-clause-value : goal.returns-clause-value
returns-clause-value c = omega (arith, count c, among_ticks c)

pub returns-clause-range : goal.returns-clause-range
returns-clause-range c = let within = among_ticks c in (omega arith, omega arith)
