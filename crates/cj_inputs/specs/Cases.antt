-- The case that is asked of the files of a folder.
use Rattle.std.specs.Prelude.{ℕ, ◌-◌, ◌*◌, nat_le, if◌then◌else◌, Bool, List, [], length, Option, Result, Ok, Err}
use Rattle.cj_io.specs.declared.file.FileBytes.{FileBytes}
use Rattle.cj_io.specs.Files.{names_of}
use Rattle.cj_words.specs.Settings.{PlainSettings}
use Rattle.cj_track.specs.PlainTracks.{PlainTrack}
use Rattle.cj_case.specs.PlainProblems.{PlainProblem}
use Rattle.cj_case.specs.Slots.{slot_count}
use Rattle.cj_status.specs.declared.status.Status.{Status}
use Rattle.cj_status.specs.declared.status.Status.TheVariants as status
use Rattle.cj_status.specs.declared.status.LimitFault.TheVariants.{Objects, Window, Slots}
use Rattle.cj_status.specs.Steps.{◌>>=◌}
use Rattle.cj_inputs.specs.declared.input_files.Entry.{Entry}
use Rattle.cj_inputs.specs.Readings.{readings_of}
use Rattle.cj_inputs.specs.InputFiles.{apart_of, inputs_of}
use Rattle.cj_inputs.specs.ObjectAttributes.{PlainAttributes, attributes_asked}
use Rattle.cj_inputs.specs.ObjectPrimaries.{object_primaries}
use Rattle.cj_inputs.specs.ObjectSizes.{object_sizes}
use Rattle.cj_inputs.specs.Windows.{window_first, window_last}

-- at most so many objects
abbrev pub within_objects : ℕ → List Entry → Result (List Entry) Status
within_objects most entries = if nat_le (length entries) most then Ok entries else Err (status.Limit (Objects (length entries)))

abbrev pub case_with : List PlainTrack → ℕ → ℕ → ℕ → List ℕ → Option (List Bool) → PlainProblem
case_with es first last threshold sizes primaries =
    record { tracks = es; first = first; last = last; threshold = threshold; sizes = sizes; primaries = primaries }

-- what is asked of these ephemerides, where this is said of their objects
abbrev pub case_of_run : PlainSettings → List PlainTrack → PlainAttributes → PlainProblem
case_of_run settings es said =
    case_with es (window_first settings es) (window_last settings es) (settings.threshold * 1_000_000_000)
    (object_sizes said.sizes es) (object_primaries said.primaries es)

-- a window of at most fourteen days
abbrev pub within_window : PlainProblem → Result PlainProblem Status
within_window case = if nat_le (case.last - case.first) 1_209_600_000_000 then Ok case else Err (status.Limit (Window (case.last - case.first)))

abbrev pub object_slots : PlainProblem → ℕ
object_slots case = length case.tracks * slot_count case.first case.last

-- at most so many objects times slots
abbrev pub within_slots : ℕ → PlainProblem → Result PlainProblem Status
within_slots most case = if nat_le (object_slots case) most then Ok case else Err (status.Limit (Slots (object_slots case)))

-- both
abbrev pub within_limits : ℕ → PlainProblem → Result PlainProblem Status
within_limits most case = within_window case >>= within_slots most

-- the case that is asked of the files, or the first cause for which there is none
unfoldable pub case_asked : List FileBytes → PlainSettings → Result PlainProblem Status
case_asked files settings = do
  entries ← within_objects settings.limits.objects (inputs_of settings.suffix (apart_of settings) (names_of files))
  es ← readings_of settings files entries
  said ← attributes_asked es [] files settings
  within_limits settings.limits.object_slots (case_of_run settings es said)
