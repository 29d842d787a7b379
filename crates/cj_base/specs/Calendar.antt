-- The Gregorian calendar from 1970 on, by jiff's words for leap years and months. Days are counted from 0 for 1 January 1970.
use Rattle.std.specs.Prelude.{ℕ, zero, suc, ◌+◌, ◌-◌, Bool, ◌&&◌, nat_lt, nat_le, if◌then◌else◌, Option, Some, None, pos}
use Rattle.jiff_core.specs.Calendar.{days_in_month, days_in_year, day_of_year}

-- a day of the calendar
pub record Civil : Type 0 where
  pub year : ℕ
  pub month : ℕ
  pub day : ℕ

-- the day that follows
abbrev pub day_after : Civil → Civil
day_after c =
    if nat_lt c.day (days_in_month (pos c.year) c.month) then record { year = c.year; month = c.month; day = c.day + 1 }
    else if nat_lt c.month 12 then record { year = c.year; month = c.month + 1; day = 1 }
    else record { year = c.year + 1; month = 1; day = 1 }

-- the day that comes so many days after 1 January 1970
unfoldable pub civil_of : ℕ → Civil
civil_of zero = record { year = 1970; month = 1; day = 1 }
civil_of (suc n) = day_after (civil_of n)

-- the days of the first n years from 1970 on
unfoldable pub days_of_years : ℕ → ℕ
days_of_years zero = 0
days_of_years (suc n) = days_of_years n + days_in_year (pos (1970 + n))

-- how many days lie between 1 January 1970 and the day with this place in its year, counted from 1
abbrev pub day_of_ordinal : ℕ → ℕ → ℕ
day_of_ordinal year day = days_of_years (year - 1970) + (day - 1)

-- the same of a day of a month
abbrev pub day_of_date : ℕ → ℕ → ℕ → ℕ
day_of_date year month day = day_of_ordinal year (day_of_year (pos year) month day)

-- the years of ticks
abbrev pub is_year : ℕ → Bool
is_year year = nat_le 1972 year && nat_le year 2099

-- the year has such a month, and the month such a day
abbrev pub is_date : ℕ → ℕ → ℕ → Bool
is_date year month day =
    nat_le 1 month && nat_le month 12 && nat_le 1 day && nat_le day (days_in_month (pos year) month)

-- the year has so many days
abbrev pub is_ordinal : ℕ → ℕ → Bool
is_ordinal year day = nat_le 1 day && nat_le day (days_in_year (pos year))

-- the number of the day with this date, if there is one in the years of ticks
abbrev pub day_at_date : ℕ → ℕ → ℕ → Option ℕ
day_at_date year month day =
    if is_year year && is_date year month day then Some (day_of_date year month day) else None

-- the number of the day with this place in its year, if there is one in the years of ticks
abbrev pub day_at_ordinal : ℕ → ℕ → Option ℕ
day_at_ordinal year day =
    if is_year year && is_ordinal year day then Some (day_of_ordinal year day) else None
