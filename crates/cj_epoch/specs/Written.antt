-- How an epoch is written.
use Rattle.std.specs.Prelude.{ℕ, ◌+◌, ◌/◌, ◌%◌, List, [], ◌∷◌, ◌++◌, codes}
use Rattle.cj_base.specs.Ticks.{DAY, HOUR, MINUTE, SECOND}
use Rattle.cj_base.specs.Calendar.{Civil, civil_of}

-- the last two digits of a number
abbrev pub two : ℕ → List ℕ
two n = (48 + n / 10 % 10) ∷ (48 + n % 10) ∷ []

-- the last four
abbrev pub four : ℕ → List ℕ
four n = two (n / 100) ++ two n

-- the last six
abbrev pub six : ℕ → List ℕ
six n = two (n / 10_000) ++ two (n / 100) ++ two n

-- YYYY-MM-DD
abbrev pub date_text : Civil → List ℕ
date_text c = four c.year ++ codes "-" ++ two c.month ++ codes "-" ++ two c.day

-- hh:mm:ss
abbrev pub clock_text : ℕ → List ℕ
clock_text micros =
    two (micros / HOUR % 24) ++ codes ":" ++ two (micros / MINUTE % 60) ++ codes ":" ++ two (micros / SECOND % 60)

-- YYYY-MM-DDThh:mm:ss.ffffff, for a number of microseconds since 1970-01-01T00:00:00
unfoldable pub epoch_of : ℕ → List ℕ
epoch_of micros =
    date_text (civil_of (micros / DAY)) ++ codes "T" ++ clock_text micros ++ codes "." ++ six (micros % SECOND)
