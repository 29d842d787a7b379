-- The window of a run: its ends as they are asked for, else the useable spans' own.
use Rattle.std.specs.Prelude.{ℕ, min, max, List, [], ◌∷◌, map, fold, unwrap_or}
use Rattle.cj_base.specs.Ticks.{FIRST_TICK}
use Rattle.cj_track.specs.PlainTracks.{PlainTrack, first_of, last_of}
use Rattle.cj_words.specs.Settings.{PlainSettings}

-- the least of ticks, and 1972 where there are none
abbrev pub least : List ℕ → ℕ
least [] = FIRST_TICK
least (m ∷ ms) = fold min m ms

-- the greatest of ticks, and 1972 where there are none
abbrev pub greatest : List ℕ → ℕ
greatest [] = FIRST_TICK
greatest (m ∷ ms) = fold max m ms

-- the least useable tick of an ephemeris, and the greatest
abbrev pub start_of : PlainTrack → ℕ
start_of e = least (map first_of e.segments)

abbrev pub stop_of : PlainTrack → ℕ
stop_of e = greatest (map last_of e.segments)

-- the first and the last tick of the window
abbrev pub window_first : PlainSettings → List PlainTrack → ℕ
window_first asked es = unwrap_or asked.from (least (map start_of es))

abbrev pub window_last : PlainSettings → List PlainTrack → ℕ
window_last asked es = unwrap_or asked.to (greatest (map stop_of es))
