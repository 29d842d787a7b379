-- What a file says, or the first fault of it.
use Rattle.std.specs.Prelude.{◌≡◌, ℕ, ◌+◌, Bool, if◌then◌else◌, List, [], ◌∷◌, Option, Some, None, Result, Ok, Err}
use Rattle.cj_kvn.specs.Lines as kvn
use Rattle.cj_kvn.specs.Lines.{Numbered}
use Rattle.cj_kvn.specs.Faults as faults
use Rattle.cj_kvn.specs.Faults.{at_line, lines_or, ◌>>=◌}
use Rattle.cj_kvn.specs.declared.lines.KvnCause.{KvnCause}
use Rattle.cj_kvn.specs.declared.text_fault.LineFault.{LineFault}
use Rattle.cj_kvn.specs.declared.text_fault.TextFault.{TextFault}
use Rattle.cj_kvn.specs.declared.text_fault.TextFault.TheVariants.{Memory, At}
use Rattle.cj_track.specs.declared.track.Track.{Track}
use Rattle.cj_formats.specs.declared.oem_cause.OemCause.{OemCause}
use Rattle.cj_formats.specs.declared.oem_cause.OemCause.TheVariants as causes
use Rattle.cj_track.specs.PlainTracks.{PlainTrack}
use Rattle.cj_track.specs.Labels.{is_file_name}
use Rattle.cj_oem.specs.Metadata.{Object}
use Rattle.cj_oem.specs.Stages.{Stage, Start, Body, follows, finished}
use Rattle.cj_track.specs.Tracks.{plain_track}

-- a fault of a file at its line
abbrev pub Fault : Type 0
Fault = LineFault OemCause

-- where the lines lead from a stage, the first of them having this number: the end of the file counts as a line
abbrev pub read_on : Bool → Stage → ℕ → List Numbered → Result Body Fault
read_on as_hermite3 stage number [] = at_line number (finished stage)
read_on as_hermite3 stage number (line ∷ lines) = at_line line.number (follows as_hermite3 stage line.form) >>= λ next. read_on as_hermite3 next (line.number + 1) lines

-- the object with its segments
abbrev pub with_object : List ℕ → Body → Option Object → Result PlainTrack Fault
with_object file body None = Err (record { line = 0; cause = causes.Missing })
with_object file body (Some o) = Ok (record { file = file; name = o.name; id = o.id; frame = o.frame; segments = body.segments })

-- what the lines of the file with this name say
unfoldable pub lines_read : Bool → List ℕ → List Numbered → Result PlainTrack Fault
lines_read as_hermite3 file lines = read_on as_hermite3 Start 1 lines >>= λ body. with_object file body body.object

-- the object and its segments, by the lines of a file; a line without a form comes before what is wrong with an earlier one
abbrev pub body_said : Bool → Result (List Numbered) (LineFault KvnCause) → Result Body Fault
body_said as_hermite3 said = lines_or causes.Kvn said >>= read_on as_hermite3 Start 1

-- what the bytes of the file with this name say; the cubic may be taken where the file declares another interpolation or none
unfoldable pub reading : List ℕ → List ℕ → Bool → Result PlainTrack Fault
reading file bytes as_hermite3 =
    if is_file_name file then lines_or causes.Kvn (kvn.reading bytes) >>= lines_read as_hermite3 file
    else Err (record { line = 0; cause = causes.Name })

-- the track says what the file says, and a fault is the file's; for want of memory nothing is told
abbrev pub Gives : Result Track (TextFault OemCause) → Result PlainTrack Fault → Type 0
Gives result said = faults.Gives plain_track result said

-- the track is this ephemeris, or memory ran out
abbrev pub IsTrackOf : Result Track (TextFault OemCause) → PlainTrack → Type 0
IsTrackOf (Ok track) e = plain_track track ≡ e
IsTrackOf (Err (At line cause)) e = ⊥
IsTrackOf (Err Memory) e = Unit {0}

-- a fault of the file, at a line of it
abbrev pub IsOfFile : TextFault OemCause → Type 0
IsOfFile (At line cause) = Unit {0}
IsOfFile Memory = ⊥
