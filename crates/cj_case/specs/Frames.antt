-- Tracks of one frame.
use Rattle.std.specs.Prelude.{◌≡◌, ℕ, ◌<◌, List, length, slice_index_or}
use Rattle.cj_track.specs.declared.track.Track.{Track}

-- each two of them have the same frame
abbrev pub HaveOneFrame : List Track → Type 0
HaveOneFrame tracks =
    (i j : ℕ) (d : Track) → i < length tracks → j < length tracks → (slice_index_or tracks i d).frame ≡ (slice_index_or tracks j d).frame
