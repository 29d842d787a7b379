-- What is written is read again.
use Rattle.std.proofs.Common.{◌≡◌, ℕ, ◌+◌, ◌*◌, ◌/◌, ◌%◌, ◌<◌, List, [], ◌∷◌, map, take, true, false, Bool, cond, Option, Some, None, Result, pos, ap, ◌∙◌, sym, arith, refl}
use Rattle.std.specs.Prelude.{IsTrue, ◌==◌}
use Rattle.std.specs.Char.{is_ascii_digit, digit_value}
use Rattle.std.specs.List.{list_all}
use Rattle.std.specs.Str.Parse.{digits_value}
use Rattle.std.proofs.lemmas.Bool.Decides.{nat_tests}
use Rattle.std.proofs.lemmas.Str.{digit_value_digit}
use Rattle.jiff_core.specs.Calendar.{IsCivilDate}
use Rattle.jiff_core.proofs.SignedLemmas.{signed_arith}
use Rattle.jiff_core.proofs.CalendarLemmas.{days_in_month_bounds}
use Rattle.cj_epoch.specs.declared.fault.EpochFault.{EpochFault}
use Rattle.cj_base.specs.Calendar.{civil_of, day_at_date}
use Rattle.cj_epoch.specs.Picture.{begins_like}
use Rattle.cj_epoch.specs.Reading.{CALENDAR, fraction_of, decimals_of, micros_of, second_at, moment_of, calendar_reading, reading_of}
use Rattle.cj_base.specs.Ticks.{IsTick, IsTickDay, DAY, HOUR, MINUTE, SECOND}
use Rattle.cj_epoch.specs.Written.{two, four, six, epoch_of}
use Rattle.cj_epoch.proofs.CivilLemmas.{civil_of-at}
use Rattle.cj_epoch.proofs.DigitLemmas.{both, okay}
use Rattle.cj_epoch.proofs.PictureLemmas.{AreDigits}
use Rattle.cj_epoch.proofs.ReadingLemmas.{date_is, second_is}
use Rattle.cj_epoch.proofs.YearLemmas.{year_of_tick, date_named}

-- the last digit of a number, as a byte
pub digit_is : (n : ℕ) → IsTrue (is_ascii_digit (48 + n % 10))
digit_is n = grind (arith, nat_tests)

pub digits_are : (ns : List ℕ) → AreDigits (map (λ (n : ℕ). 48 + n % 10) ns)
digits_are [] = refl
digits_are (n ∷ ns) = both (is_ascii_digit (48 + n % 10)) (list_all is_ascii_digit (map (λ (k : ℕ). 48 + k % 10) ns)) (digit_is n) (digits_are ns)

pub value_is : (n : ℕ) → digit_value (48 + n % 10) ≡ n % 10
value_is n = omega (arith, digit_value_digit (48 + n % 10) (omega arith, omega arith))

two_value : (n : ℕ) → n < 100 → digits_value 10 (two n) ≡ n
two_value n small = omega (arith, value_is (n / 10), value_is n)

four_value : (n : ℕ) → n < 10_000 → digits_value 10 (four n) ≡ n
four_value n small = omega (arith, value_is (n / 100 / 10), value_is (n / 100), value_is (n / 10), value_is n)

six_value : (n : ℕ) → n < 1_000_000 → digits_value 10 (six n) ≡ n
six_value n small =
    omega (arith, value_is (n / 10_000 / 10), value_is (n / 10_000), value_is (n / 100 / 10), value_is (n / 100), value_is (n / 10), value_is n)

some_of : (b : Bool) (text : List ℕ) → b ≡ true → cond b (Some text) None ≡ Some text
some_of true text h = refl
some_of false text h = absurd cc

kept : (b : Bool) (text other : List ℕ) → b ≡ false → fraction_of (cond b other text) ≡ fraction_of text
kept true text other h = absurd cc
kept false text other h = refl

no_zulu : (b : ℕ) → IsTrue (is_ascii_digit b) → (b == 90) ≡ false
no_zulu b digit = grind (arith, nat_tests)

decimals_six : (n : ℕ) → decimals_of (46 ∷ six n) ≡ Some (six n)
decimals_six n =
    kept ((48 + n % 10) == 90) (46 ∷ six n) (take 6 (46 ∷ six n)) (no_zulu (48 + n % 10) (digit_is n))
    ∙ some_of (list_all is_ascii_digit (six n)) (six n) (digits_are (n / 10_000 / 10 ∷ n / 10_000 ∷ n / 100 / 10 ∷ n / 100 ∷ n / 10 ∷ n ∷ []))

micros_six : (n : ℕ) → n < 1_000_000 → micros_of (six n) ≡ okay n
micros_six n small = ap okay (omega (arith, six_value n small))

-- what is written begins like a date of the calendar
pub begins : (n : ℕ) → IsTrue (begins_like CALENDAR (epoch_of n))
unfolding epoch_of
begins n =
    let c = civil_of (n / DAY) in
    let hour = n / HOUR % 24 in
    let minute = n / MINUTE % 60 in
    let second = n / SECOND % 60 in
    digits_are (c.year / 100 / 10 ∷ c.year / 100 ∷ c.year / 10 ∷ c.year ∷ c.month / 10 ∷ c.month ∷ c.day / 10 ∷ c.day ∷ hour / 10 ∷ hour ∷ minute / 10 ∷ minute ∷ second / 10 ∷ second ∷ [])

-- the day of the date is read
day_read : (n : ℕ) → IsTickDay n → let c = civil_of n in day_at_date (digits_value 10 (four c.year)) (digits_value 10 (two c.month)) (digits_value 10 (two c.day)) ≡ Some n
day_read n within =
    let c = civil_of n in
    let at = civil_of-at n in
    let years = year_of_tick c.year c.month c.day n at.year_low (at.month_low, at.month_high) (at.day_low, at.day_high) at.count within in
    let civil : IsCivilDate (pos c.year) c.month c.day = ((omega (arith, signed_arith), omega (arith, signed_arith)), (at.month_low, at.month_high), (at.day_low, at.day_high)) in
    date_is _ _ _ c.year c.month c.day (four_value c.year (omega arith)) (two_value c.month (omega (arith, at.month_high)))
    (two_value c.day (omega (arith, at.day_high, days_in_month_bounds (pos c.year) c.month)))
    ∙ sym (date_named c.year c.month c.day n years.0 years.1 civil (omega (arith, at.count)))

-- the time of the day is read
in_range : (hour minute second : ℕ) → hour < 24 → minute < 60 → second < 60 → second_at hour minute second ≡ okay ((hour * 60 + minute) * 60 + second)
in_range hour minute second h m s = grind (arith, nat_tests)

clock_is : (hour minute second : ℕ) → hour < 24 → minute < 60 → second < 60 → second_at (digits_value 10 (two hour)) (digits_value 10 (two minute)) (digits_value 10 (two second)) ≡ okay ((hour * 60 + minute) * 60 + second)
clock_is hour minute second h m s =
    second_is _ _ _ hour minute second (two_value hour (omega arith)) (two_value minute (omega arith)) (two_value second (omega arith))
    ∙ in_range hour minute second h m s

-- what a moment is where nothing is wrong
moment_ok : (day : Option ℕ) (second : Result ℕ EpochFault) (ending decimals : List ℕ) (d s m : ℕ) → day ≡ Some d → second ≡ okay s → decimals_of ending ≡ Some decimals → micros_of decimals ≡ okay m → moment_of day second ending ≡ okay (d * DAY + s * SECOND + m)
moment_ok day second ending decimals d s m is_day is_second are_decimals is_micros = rw (is_day, is_second, are_decimals, is_micros) refl

pub read_by_calendar : (text : List ℕ) → begins_like CALENDAR text ≡ true → reading_of text ≡ calendar_reading text
unfolding reading_of
read_by_calendar text like = rw like refl

pub epoch_of-read : (n : ℕ) → IsTick n → reading_of (epoch_of n) ≡ okay n
unfolding epoch_of calendar_reading
epoch_of-read n tick =
    let day = n / DAY in
    let hour = n / HOUR % 24 in
    let minute = n / MINUTE % 60 in
    let second = n / SECOND % 60 in
    let micros = n % SECOND in
    read_by_calendar (epoch_of n) (begins n)
    ∙ moment_ok _ _ (46 ∷ six micros) (six micros) day ((hour * 60 + minute) * 60 + second) micros
    (day_read day (omega arith, omega arith))
    (clock_is hour minute second (omega arith) (omega arith) (omega arith))
    (decimals_six micros)
    (micros_six micros (omega arith))
    ∙ ap okay (omega arith)
