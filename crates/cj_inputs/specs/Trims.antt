-- What is taken of a track that is read: all of it, or what the window needs.
use Rattle.std.specs.Prelude.{ℕ, if◌then◌else◌, Option, Some, None, Result, Ok}
use Rattle.cj_base.specs.declared.tick.Window.{Window}
use Rattle.cj_track.specs.PlainTracks.{PlainTrack}
use Rattle.cj_trim.specs.Trimmed.{trimmed}
use Rattle.cj_words.specs.Settings.{PlainSettings}
use Rattle.cj_status.specs.declared.status.Status.{Status}
use Rattle.cj_status.specs.Steps.{◌>>=◌}

-- the first and the last tick of a window
abbrev pub ends : Window → ℕ × ℕ
ends window = (window.first.micros, window.last.micros)

-- both ends, where both are given
abbrev pub both_ends : Option ℕ → Option ℕ → Option (ℕ × ℕ)
both_ends None to = None
both_ends (Some first) None = None
both_ends (Some first) (Some last) = Some (first, last)

-- the window to which the tracks of a run are trimmed, where they are: that of a large run for which both its ends are given
abbrev pub trims_of : PlainSettings → Option (ℕ × ℕ)
trims_of settings = if settings.large then both_ends settings.from settings.to else None

-- a track as it is taken: trimmed to a window, where there is one
abbrev pub left_of : Option (ℕ × ℕ) → PlainTrack → PlainTrack
left_of None e = e
left_of (Some window) e = trimmed window.0 window.1 e

-- what is read, as it is taken
abbrev pub left_said : Option (ℕ × ℕ) → Result PlainTrack Status → Result PlainTrack Status
left_said None said = said
left_said (Some window) said = said >>= λ e. Ok (trimmed window.0 window.1 e)
