-- Files of a folder that are updates of others, the files that then stand, and the cases that are asked of both.
use Rattle.std.specs.Prelude.{ℕ, ◌-◌, Bool, true, false, not, ◌&&◌, nat_le, take, length, if◌then◌else◌, List, [], ◌∷◌, ◌++◌, map, filter, fold, Option, Some, None, Result, Ok}
use Rattle.std.specs.Cmp.Lexicographic.{slice_cmp}
use Rattle.std.specs.declared.cmp.Ordering.{Ordering}
use Rattle.std.specs.Ordering.{nat_cmp}
use Rattle.std.specs.Str.{bytes_eq}
use Rattle.cj_io.specs.declared.file.FileBytes.{FileBytes}
use Rattle.cj_io.specs.Files.{bytes_of, names_of}
use Rattle.cj_track.specs.PlainTracks.{PlainTrack}
use Rattle.cj_track.specs.Tracks.{plain_track}
use Rattle.cj_oem.specs.Reading.{reading}
use Rattle.cj_words.specs.Commands.{PlainRescreening}
use Rattle.cj_words.specs.Settings.{PlainSettings}
use Rattle.cj_case.specs.PlainProblems.{PlainProblem}
use Rattle.cj_case.specs.Problems.{plain_problem}
use Rattle.cj_status.specs.declared.status.Status.{Status}
use Rattle.cj_status.specs.Steps.{◌>>=◌}
use Rattle.cj_inputs.specs.declared.input_files.Entry.{Entry}
use Rattle.cj_inputs.specs.declared.updated.Updated.{Updated}
use Rattle.cj_inputs.specs.declared.updating.Updating.{Updating}
use Rattle.cj_inputs.specs.Cases.{case_asked, case_of_run, within_limits, within_objects}
use Rattle.cj_inputs.specs.InputFiles.{PlainApart, apart_of, has_suffix, inputs_of, is_taken}
use Rattle.cj_inputs.specs.ObjectAttributes.{PlainAttributes, attributes_asked}
use Rattle.cj_inputs.specs.Orders.{inserted}
use Rattle.cj_inputs.specs.Readings.{checked_after, readings_of, refused_of, within_bytes}
use Rattle.cj_inputs.specs.Trims.{left_said, trims_of}

-- ---- which files are updates

-- what stands before the update suffix in the name of an update: the name that it updates
abbrev pub updated_name : List ℕ → List ℕ → List ℕ
updated_name update name = take (length name - length update) name

-- a file of this name is an update: its name ends with the update suffix, and what stands before that with the suffix. The files of sizes
-- and of primaries are none
abbrev pub is_update : List ℕ → List ℕ → PlainApart → List ℕ → Bool
is_update suffix update apart name = is_taken update apart name && has_suffix suffix (updated_name update name)

-- the base files of a folder with these names: those that are taken and are no updates
unfoldable pub base_of : List ℕ → List ℕ → PlainApart → List (List ℕ) → List Entry
base_of suffix update apart names = filter (λ entry. not (is_update suffix update apart entry.name)) (inputs_of suffix apart names)

-- no file of the same name follows
abbrev pub ends_name : Entry → List Entry → Bool
ends_name entry [] = true
ends_name entry (next ∷ entries) = not (bytes_eq next.name entry.name)

-- it updates a name that would be taken, and no other of its own name follows
abbrev pub is_last_update : List ℕ → List ℕ → Entry → List Entry → Bool
is_last_update suffix update entry entries = has_suffix suffix (updated_name update entry.name) && ends_name entry entries

-- those of files in order of names
abbrev pub last_updates : List ℕ → List ℕ → List Entry → List Entry
last_updates suffix update [] = []
last_updates suffix update (entry ∷ entries) =
    if is_last_update suffix update entry entries then entry ∷ last_updates suffix update entries else last_updates suffix update entries

-- the updates that count: of each name the last one in the folder's order, in byte order of their own names
unfoldable pub updates_of : List ℕ → List ℕ → PlainApart → List (List ℕ) → List Entry
updates_of suffix update apart names = last_updates suffix update (inputs_of update apart names)

-- ---- the files that then stand

-- an update as a file of the name that it updates
abbrev pub as_updated : List ℕ → Entry → Entry
as_updated update entry = record { name = updated_name update entry.name; number = entry.number }

abbrev pub is_filled : List ℕ → Bool
is_filled [] = false
is_filled (b ∷ bytes) = true

-- it has bytes
abbrev pub has_bytes : List FileBytes → Entry → Bool
has_bytes files entry = is_filled (bytes_of files entry.number)

abbrev pub entry_name : Entry → List ℕ
entry_name entry = entry.name

-- things but for the first that has this name, where one has it
abbrev pub without_first : {X : Type 0} → (X → List ℕ) → List X → List ℕ → List X
without_first name_of [] name = []
without_first name_of (x ∷ xs) name = if bytes_eq (name_of x) name then xs else x ∷ without_first name_of xs name

-- by name
abbrev pub by_name : {X : Type 0} → (X → List ℕ) → X → X → Ordering
by_name name_of a b = slice_cmp nat_cmp (name_of a) (name_of b)

-- things in order of names with others, each at its place by name and before all of its own name
abbrev pub with_others : {X : Type 0} → (X → List ℕ) → List X → List X → List X
with_others name_of [] xs = xs
with_others name_of (other ∷ others) xs = inserted (by_name name_of) other (with_others name_of others xs)

-- the names that these updates update
abbrev pub updated_names : List ℕ → List Entry → List (List ℕ)
updated_names update updates = map (λ entry. updated_name update entry.name) updates

-- those of these updates that have bytes, as files of the names that they update
abbrev pub filled : List ℕ → List FileBytes → List Entry → List Entry
filled update files updates = filter (has_bytes files) (map (as_updated update) updates)

-- The updated files, in byte order of names. Each update takes the first base file of its name away, if there is one, and stands in its place
-- where it has bytes.
unfoldable pub updated_of : List ℕ → List FileBytes → List Entry → List Entry → List Entry
updated_of update files base updates =
    with_others entry_name (filled update files updates) (fold (without_first entry_name) base (updated_names update updates))

-- ---- what is read

-- the ephemerides before, and what the bytes of an update say: they are read under the name that it updates, and refused under its own. No bytes
-- say nothing
abbrev pub said_behind : PlainSettings → List ℕ → List PlainTrack → List ℕ → List ℕ → Result (List PlainTrack) Status
said_behind settings update before name [] = Ok before
said_behind settings update before name (b ∷ bytes) =
    (left_said (trims_of settings) (refused_of name (reading (updated_name update name) (b ∷ bytes) settings.as_hermite3)) >>= checked_after settings.limits.nodes before name)
    >>= λ track. Ok (before ++ track ∷ [])

-- the same of an update
abbrev pub update_after : PlainSettings → List ℕ → List FileBytes → List PlainTrack → Entry → Result (List PlainTrack) Status
update_after settings update files before entry =
    within_bytes entry.name (bytes_of files entry.number) >>= said_behind settings update before entry.name

-- the ephemerides before, and those of these updates, or why the first of them that is not read is not
abbrev pub updates_after : PlainSettings → List ℕ → List FileBytes → List PlainTrack → List Entry → Result (List PlainTrack) Status
updates_after settings update files before [] = Ok before
updates_after settings update files before (entry ∷ entries) =
    update_after settings update files before entry >>= λ all. updates_after settings update files all entries

-- the ephemerides of the base files, and of the updated files
pub record PlainUpdated : Type 0 where
  pub base : List PlainTrack
  pub new : List PlainTrack

abbrev pub plain_updated : Updated → PlainUpdated
plain_updated updated = record { base = map plain_track updated.base.items; new = map plain_track updated.new.items }

-- what the updated files are read as, where the base files are read as this and the updates are read too, or that they are too many
abbrev pub updated_with : List FileBytes → PlainSettings → List ℕ → List Entry → List Entry → List PlainTrack → Result PlainUpdated Status
updated_with files settings update entries updates base = do
  updated ← within_objects settings.limits.objects (updated_of update files entries updates)
  new ← readings_of settings files updated
  Ok (record { base = base; new = new })

-- what is read of base files and of updates that count, or the first cause for which it is not: the base files, the updates, and then the
-- updated files, which are read where both are
unfoldable pub read_as : List FileBytes → PlainSettings → List ℕ → List Entry → List Entry → Result PlainUpdated Status
read_as files settings update entries updates = do
  base ← readings_of settings files entries
  all ← updates_after settings update files base updates
  updated_with files settings update entries updates base

-- the same of the files of a folder
unfoldable pub tracks_updated : List FileBytes → PlainSettings → List ℕ → Result PlainUpdated Status
tracks_updated files settings update = do
  entries ← within_objects settings.limits.objects (base_of settings.suffix update (apart_of settings) (names_of files))
  read_as files settings update entries (updates_of settings.suffix update (apart_of settings) (names_of files))

-- ---- what is asked

-- the case of the updated files alone, or the first cause for which there is none
unfoldable pub updated_asked : List FileBytes → PlainSettings → List ℕ → Result PlainProblem Status
updated_asked files settings update = do
  tracks ← tracks_updated files settings update
  said ← attributes_asked tracks.base tracks.new files settings
  within_limits settings.limits.object_slots (case_of_run settings tracks.new said)

-- the case that is asked of the files, where those are updates whose names end with this, if it stands
abbrev pub case_with_updates : List FileBytes → PlainSettings → Option (List ℕ) → Result PlainProblem Status
case_with_updates files settings None = case_asked files settings
case_with_updates files settings (Some update) = updated_asked files settings update

-- a case before updates, and the case after them
pub record PlainUpdating : Type 0 where
  pub base : PlainProblem
  pub new : PlainProblem

abbrev pub plain_updating : Updating → PlainUpdating
plain_updating updating = record { base = plain_problem updating.base; new = plain_problem updating.new }

-- the one with more objects, the new one of equal ones
abbrev pub larger : PlainUpdating → PlainProblem
larger cases = if nat_le (length cases.base.tracks) (length cases.new.tracks) then cases.new else cases.base

abbrev pub cases_of_run : PlainSettings → PlainUpdated → PlainAttributes → PlainUpdating
cases_of_run settings tracks said = record { base = case_of_run settings tracks.base said; new = case_of_run settings tracks.new said }

-- both cases, where the one with more objects is within its limits
abbrev pub both_within : ℕ → PlainUpdating → Result PlainUpdating Status
both_within most cases = within_limits most (larger cases) >>= λ larger. Ok cases

-- the cases that are asked of a screening again, or the first cause for which there are none
unfoldable pub cases_asked : List FileBytes → PlainRescreening → Result PlainUpdating Status
cases_asked files asked = do
  tracks ← tracks_updated files asked.screening.settings asked.update
  said ← attributes_asked tracks.base tracks.new files asked.screening.settings
  both_within asked.screening.settings.limits.object_slots (cases_of_run asked.screening.settings tracks said)
