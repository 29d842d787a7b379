-- What the files of a folder are read as, each for itself: whatever their frames, and without a window.
use Rattle.std.specs.Prelude.{ℕ, Bool, List, [], ◌∷◌, ◌++◌, map, Result, Ok}
use Rattle.cj_base.specs.Limits.{PlainLimits}
use Rattle.cj_io.specs.declared.file.FileBytes.{FileBytes}
use Rattle.cj_io.specs.Files.{bytes_of, names_of}
use Rattle.cj_track.specs.PlainTracks.{PlainTrack}
use Rattle.cj_track.specs.Tracks.{plain_track}
use Rattle.cj_words.specs.Commands.{PlainThinning}
use Rattle.cj_status.specs.declared.status.Status.{Status}
use Rattle.cj_status.specs.Steps.{◌>>=◌}
use Rattle.cj_inputs.specs.declared.input_files.Entry.{Entry}
use Rattle.cj_inputs.specs.declared.lone_tracks.LoneTracks.{LoneTracks}
use Rattle.cj_inputs.specs.Cases.{within_objects}
use Rattle.cj_inputs.specs.InputFiles.{inputs_of, none_apart}
use Rattle.cj_inputs.specs.Readings.{reading_of, within_nodes}

abbrev pub plain_tracks : LoneTracks → List PlainTrack
plain_tracks lone = map plain_track lone.tracks.items

-- what a file is read as behind the files before it, where all may have so many nodes
abbrev pub reading_alone : Bool → ℕ → List FileBytes → List PlainTrack → Entry → Result PlainTrack Status
reading_alone as_hermite3 most files before entry = reading_of as_hermite3 entry.name (bytes_of files entry.number) >>= within_nodes most before

-- the ephemerides before, and those of these files, or why the first of them that is not read is not
abbrev pub readings_alone : Bool → ℕ → List FileBytes → List PlainTrack → List Entry → Result (List PlainTrack) Status
readings_alone as_hermite3 most files before [] = Ok before
readings_alone as_hermite3 most files before (entry ∷ entries) =
    reading_alone as_hermite3 most files before entry >>= λ track. readings_alone as_hermite3 most files (before ++ track ∷ []) entries

-- the ephemerides that are asked of the files within these limits, or the first cause for which there are none
unfoldable pub tracks_asked : PlainLimits → List FileBytes → PlainThinning → Result (List PlainTrack) Status
tracks_asked limits files thinning = do
  entries ← within_objects limits.objects (inputs_of thinning.suffix none_apart (names_of files))
  readings_alone thinning.as_hermite3 limits.nodes files [] entries
