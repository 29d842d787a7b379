-- What the files of a folder are read as.
use Rattle.std.specs.Prelude.{◌≡◌, ℕ, Bool, true, nat_le, if◌then◌else◌, List, [], ◌∷◌, ◌++◌, length, sum_by, Result, Ok, Err}
use Rattle.cj_io.specs.declared.file.FileBytes.{FileBytes}
use Rattle.cj_io.specs.Files.{bytes_of}
use Rattle.cj_track.specs.PlainTracks.{PlainSegment, PlainTrack}
use Rattle.cj_oem.specs.Metadata.{same_frame}
use Rattle.cj_oem.specs.Reading.{Fault, reading}
use Rattle.cj_words.specs.Settings.{PlainSettings}
use Rattle.cj_status.specs.declared.status.Status.{Status}
use Rattle.cj_status.specs.declared.status.Status.TheVariants.{BadFile, Limit}
use Rattle.cj_status.specs.declared.status.FileCause.TheVariants.{Oem, MixedFrames}
use Rattle.cj_status.specs.declared.status.LimitFault.TheVariants as limit
use Rattle.cj_status.specs.Steps.{◌>>=◌}
use Rattle.cj_inputs.specs.declared.reading.InputError.{InputError}
use Rattle.cj_inputs.specs.declared.reading.InputError.TheVariants as input
use Rattle.cj_inputs.specs.declared.input_files.Entry.{Entry}
use Rattle.cj_inputs.specs.Trims.{left_said, trims_of}

-- at most so many bytes of the file with this name
abbrev pub within : ℕ → List ℕ → List ℕ → Result (List ℕ) Status
within most name bytes = if nat_le (length bytes) most then Ok bytes else Err (Limit (limit.FileBytes name))

-- at most 67,108,864 bytes
abbrev pub within_bytes : List ℕ → List ℕ → Result (List ℕ) Status
within_bytes name bytes = within 67_108_864 name bytes

-- a fault of the file with this name, as the run's cause
abbrev pub refused_of : List ℕ → Result PlainTrack Fault → Result PlainTrack Status
refused_of name (Ok track) = Ok track
refused_of name (Err fault) = Err (BadFile name fault.line (Oem fault.cause))

-- what one file is read as; the cubic may be taken where the file declares another interpolation or none
unfoldable pub reading_of : Bool → List ℕ → List ℕ → Result PlainTrack Status
reading_of as_hermite3 name bytes = do
  whole ← within_bytes name bytes
  refused_of name (reading name whole as_hermite3)

-- it has the frame of the first of those before it
abbrev pub has_frame_of : List PlainTrack → PlainTrack → Bool
has_frame_of [] track = true
has_frame_of (first ∷ before) track = same_frame first.frame track.frame

abbrev pub same_frame_as : List PlainTrack → List ℕ → PlainTrack → Result PlainTrack Status
same_frame_as before name track = if has_frame_of before track then Ok track else Err (BadFile name 0 MixedFrames)

abbrev pub state_count : PlainSegment → ℕ
state_count segment = length segment.nodes

-- how many nodes an ephemeris has
abbrev pub nodes_of : PlainTrack → ℕ
nodes_of track = sum_by state_count track.segments

-- how many nodes ephemerides have in all
abbrev pub nodes_in : List PlainTrack → ℕ
nodes_in tracks = sum_by nodes_of tracks

-- an ephemeris that has, with those before it, at most so many nodes
abbrev pub within_nodes : ℕ → List PlainTrack → PlainTrack → Result PlainTrack Status
within_nodes most before track =
    if nat_le (nodes_in (before ++ track ∷ [])) most then Ok track else Err (Limit (limit.Nodes (nodes_in (before ++ track ∷ []))))

-- an ephemeris that may stand behind those before it, where all may have so many nodes
abbrev pub checked_after : ℕ → List PlainTrack → List ℕ → PlainTrack → Result PlainTrack Status
checked_after most before name track = same_frame_as before name track >>= within_nodes most before

-- what is taken of a file behind the files before it
abbrev pub reading_after : PlainSettings → List FileBytes → List PlainTrack → Entry → Result PlainTrack Status
reading_after settings files before entry =
    left_said (trims_of settings) (reading_of settings.as_hermite3 entry.name (bytes_of files entry.number)) >>= checked_after settings.limits.nodes before entry.name

-- the ephemerides before, and those of these files, or why the first of them that is not read is not
abbrev pub readings_after : PlainSettings → List FileBytes → List PlainTrack → List Entry → Result (List PlainTrack) Status
readings_after settings files before [] = Ok before
readings_after settings files before (entry ∷ entries) =
    reading_after settings files before entry >>= λ track. readings_after settings files (before ++ track ∷ []) entries

-- the ephemerides of the files that are taken, or why the first that is not read is not
abbrev pub readings_of : PlainSettings → List FileBytes → List Entry → Result (List PlainTrack) Status
readings_of settings files entries = readings_after settings files [] entries

-- What a reader gives, seen by `view`, is what was expected. It gives up for want of memory, for a fault of the folder, for the refusal of a
-- file, or for a limit.
abbrev pub Reads : {X A : Type 0} → Type 0 → (X → A) → Result X InputError → Result A Status → Type 0
Reads rose view (Ok x) expected = expected ≡ Ok (view x)
Reads rose view (Err input.Memory) expected = Unit {0}
Reads rose view (Err input.Failed) expected = rose
Reads rose view (Err (input.Refused file line cause)) expected = expected ≡ Err (BadFile file line cause)
Reads rose view (Err (input.Limit fault)) expected = expected ≡ Err (Limit fault)
