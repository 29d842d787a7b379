-- Ticks: whole microseconds since 1970-01-01T00:00:00 UTC.
use Rattle.std.specs.Prelude.{ℕ, ◌≤◌}

-- the microseconds of a second
abbrev pub SECOND : ℕ
SECOND = 1_000_000

-- the microseconds of a minute
abbrev pub MINUTE : ℕ
MINUTE = 60_000_000

-- the microseconds of an hour
abbrev pub HOUR : ℕ
HOUR = 3_600_000_000

-- the microseconds of a day
abbrev pub DAY : ℕ
DAY = 86_400_000_000

-- 1972-01-01T00:00:00
abbrev pub FIRST_TICK : ℕ
FIRST_TICK = 63_072_000_000_000

-- 2099-12-31T23:59:59.999999
abbrev pub LAST_TICK : ℕ
LAST_TICK = 4_102_444_799_999_999

-- the microseconds of the years from 1972 to 2099
abbrev pub IsTick : ℕ → Type 0
IsTick n = (FIRST_TICK ≤ n) × (n ≤ LAST_TICK)

-- the days of ticks, counted from 0 for 1 January 1970
abbrev pub IsTickDay : ℕ → Type 0
IsTickDay n = (730 ≤ n) × (n ≤ 47_481)
