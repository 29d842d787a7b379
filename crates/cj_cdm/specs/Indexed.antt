-- The tracks of an index.
use Rattle.std.specs.Prelude.{◌≡◌, ℕ, List, Option, Some, slice_get}
use Rattle.cj_track.specs.declared.track.Track.{Track}

-- each of those that are there is the track with the same number
abbrev pub AreOfTracks : List Track → List (Option Track) → Type 0
AreOfTracks tracks indexed = (object : ℕ) (track : Track) → slice_get indexed object ≡ Some (Some track) → slice_get tracks object ≡ Some track
