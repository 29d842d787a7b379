-- Slots: the minutes of a window, counted from its first tick.
use Rattle.std.specs.Prelude.{ℕ, ◌+◌, ◌-◌, ◌*◌, ◌/◌, min}

-- the ticks of a minute
abbrev pub SLOT : ℕ
SLOT = 60_000_000

-- the first tick of slot k of a window that begins at first
abbrev pub slot_first : ℕ → ℕ → ℕ
slot_first first k = first + SLOT * k

-- the last tick of slot k of a window from first to last
abbrev pub slot_last : ℕ → ℕ → ℕ → ℕ
slot_last first last k = min (first + SLOT * k + 59_999_999) last

-- how many slots hold the ticks of a window: none where first comes after last
abbrev pub slot_count : ℕ → ℕ → ℕ
slot_count first last = (last + 1 - first + 59_999_999) / SLOT

-- the slot of a tick of a window that begins at first
abbrev pub slot_of : ℕ → ℕ → ℕ
slot_of first m = (m - first) / SLOT
