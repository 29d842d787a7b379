-- Leap seconds.
use Rattle.std.specs.Prelude.{ℕ, ◌+◌, ◌*◌, Bool, ◌&&◌, nat_lt, nat_le, List, [], ◌∷◌, map}
use Rattle.std.specs.List.{list_any}
use Rattle.cj_base.specs.Calendar.{Civil, day_of_date}
use Rattle.cj_base.specs.Ticks.{DAY}

abbrev pub june : ℕ → Civil
june year = record { year = year; month = 6; day = 30 }

abbrev pub december : ℕ → Civil
december year = record { year = year; month = 12; day = 31 }

-- the days at whose end a leap second was inserted into UTC
abbrev pub leap_days : List Civil
leap_days =
    june 1972 ∷ december 1972 ∷ december 1973 ∷ december 1974 ∷ december 1975 ∷
    december 1976 ∷ december 1977 ∷ december 1978 ∷ december 1979 ∷ june 1981 ∷
    june 1982 ∷ june 1983 ∷ june 1985 ∷ december 1987 ∷ december 1989 ∷
    december 1990 ∷ june 1992 ∷ june 1993 ∷ june 1994 ∷ december 1995 ∷
    june 1997 ∷ december 1998 ∷ december 2005 ∷ december 2008 ∷ june 2012 ∷
    june 2015 ∷ december 2016 ∷ []

-- the first tick of the day that follows
abbrev pub tick_after : Civil → ℕ
tick_after day = (day_of_date day.year day.month day.day + 1) * DAY

-- a leap second lies between two ticks where such a tick is later than the first and not later than the second
unfoldable pub leap_lies_between : ℕ → ℕ → Bool
leap_lies_between a b = list_any (λ t. nat_lt a t && nat_le t b) (map tick_after leap_days)
