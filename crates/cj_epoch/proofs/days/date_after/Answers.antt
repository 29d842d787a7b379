use Rattle.std.proofs.Common.{arith, ◌≡◌, ◌+◌}
use Rattle.jiff_core.specs.Calendar.{day_count}
use Rattle.jiff_core.proofs.CalendarLemmas.{days_from_civil-day_count}
use Rattle.jiff_core.proofs.SignedLemmas.{signed_arith}
use Rattle.cj_base.specs.Calendar.{civil_of}
use Rattle.cj_epoch.proofs.CivilLemmas.{IsParts, civil_of-at, same_parts}
use Rattle.cj_epoch.proofs.days.date_after.Goals as goal

parts : (c : goal.After-from_days_since_min) → IsParts (civil_of c.args.days) c.from_days_since_min.result
parts c =
    let d = c.from_days_since_min.result in
    let count : day_count d.year d.month d.day ≡ 4_371_953 + c.args.days =
    omega (arith, signed_arith, days_from_civil-day_count d.year d.month d.day, c.from_days_since_min.ensures) in
    same_parts d (civil_of c.args.days) c.args.days (civil_of-at c.args.days) count

pub returns-clause-year : goal.returns-clause-year
returns-clause-year c = (parts c).year

pub returns-clause-month : goal.returns-clause-month
returns-clause-month c = (parts c).month

pub returns-clause-day : goal.returns-clause-day
returns-clause-day c = (parts c).day
