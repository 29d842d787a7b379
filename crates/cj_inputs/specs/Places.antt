-- Where tracks stand, by the names of their files.
use Rattle.std.specs.Prelude.{ℕ, Bool, not, List, Option, position}
use Rattle.std.specs.List.{position_or_len}
use Rattle.std.specs.Ordering.{is_lt}
use Rattle.std.specs.Str.{bytes_eq}
use Rattle.cj_track.specs.declared.track.Track.{Track}
use Rattle.cj_inputs.specs.Updates.{by_name}

-- the name of a track's file
abbrev pub file_of : Track → List ℕ
file_of track = track.file

-- the place of the first track whose file has this name
abbrev pub place_of : List Track → List ℕ → Option ℕ
place_of tracks name = position (λ track. bytes_eq track.file name) tracks

-- a track stands before another one by the names of their files
abbrev pub stands_before : Track → Track → Bool
stands_before track other = is_lt (by_name file_of track other)

-- the place of the first track that does not
abbrev pub first_behind : List Track → Track → Option ℕ
first_behind tracks other = position (λ track. not (stands_before track other)) tracks

-- how many tracks at the front stand before another one
abbrev pub place_before : List Track → Track → ℕ
place_before tracks other = position_or_len (λ track. not (stands_before track other)) tracks
