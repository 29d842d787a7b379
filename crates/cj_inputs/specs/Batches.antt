-- Files that are read one after another, and parsed side by side while the next are read. Whether the folder failed is said elsewhere.
use Rattle.std.specs.Prelude.{◌≡◌, ℕ, ◌+◌, ◌<◌, ◌≤◌, Bool, List, [], ◌∷◌, ◌++◌, length, take, drop, map, slice_index_or, None, Result, Ok, Err, IfSome, ⊤}
use Rattle.std.specs.List.{AllZip}
use Rattle.cj_io.specs.declared.file.FileBytes.{FileBytes}
use Rattle.cj_io.specs.Files.{bytes_of}
use Rattle.cj_track.specs.PlainTracks.{PlainTrack}
use Rattle.cj_track.specs.Tracks.{plain_track}
use Rattle.cj_track.specs.declared.track.Track.{Track}
use Rattle.cj_oem.specs.Reading.{reading}
use Rattle.cj_words.specs.Settings.{PlainSettings}
use Rattle.cj_status.specs.declared.status.Status.{Status}
use Rattle.cj_status.specs.Steps.{◌>>=◌}
use Rattle.cj_inputs.specs.declared.batch.Batch.{Batch}
use Rattle.cj_inputs.specs.declared.batch.FileRead.{FileRead}
use Rattle.cj_inputs.specs.declared.input_files.Entry.{Entry}
use Rattle.cj_inputs.specs.declared.progress.Progress.{Progress}
use Rattle.cj_inputs.specs.declared.reading.InputError.{InputError}
use Rattle.cj_inputs.specs.Readings.{Reads, checked_after, readings_after, readings_of, refused_of, within_bytes}
use Rattle.cj_inputs.specs.Trims.{left_said, trims_of}

-- the file that was read has the entry's name, and these are its bytes
pub record WasRead (files : List FileBytes) (entry : Entry) (file : FileRead) : Type 0 where
  pub name : file.name.now ≡ entry.name
  pub bytes : within_bytes entry.name (bytes_of files entry.number) ≡ Ok file.bytes.items

-- why the file at this place is not read
pub record IsCause (files : List FileBytes) (entries : List Entry) (place : ℕ) (why : InputError) : Type 0 where
  pub entry : Entry
  pub exists : place < length entries
  pub stands : slice_index_or entries place entry ≡ entry
  pub read : Reads ⊤ (λ (bytes : List ℕ). bytes) (Err why) (within_bytes entry.name (bytes_of files entry.number))

-- the first of these files were read, and where there is a cause, it is why the next was not
pub record IsBatchOf (files : List FileBytes) (entries : List Entry) (batch : Batch) : Type 0 where
  pub front : AllZip (WasRead files) (take (length batch.files.items) entries) batch.files.items
  pub stop : IfSome batch.stop (IsCause files entries (length batch.files.items))

-- what a file says that was read
abbrev pub said_by : Bool → FileRead → Result PlainTrack Status
said_by as_hermite3 file = refused_of file.name.now (reading file.name.now file.bytes.items as_hermite3)

-- the same, as it is taken
abbrev pub said_in : PlainSettings → FileRead → Result PlainTrack Status
said_in settings file = left_said (trims_of settings) (said_by settings.as_hermite3 file)

-- each is what its file says, as it is taken
abbrev pub AreParsed : PlainSettings → List FileRead → List (Result Track InputError) → Type 0
AreParsed settings files readings = AllZip (Reads ⊥ plain_track) readings (map (said_in settings) files)

-- the ephemerides before, and these, or why the first that may not stand there is not taken, where all may have so many nodes
abbrev pub tracks_after : ℕ → List PlainTrack → List (Result PlainTrack Status) → Result (List PlainTrack) Status
tracks_after most before [] = Ok before
tracks_after most before (said ∷ more) = (said >>= λ e. checked_after most before e.file e) >>= λ e. tracks_after most (before ++ e ∷ []) more

-- it tells why these and what is behind them are not read, where `why` tells it of what is behind
abbrev pub IsFirstCause : ℕ → InputError → List PlainTrack → List (Result PlainTrack Status) → InputError → Type 0
IsFirstCause most why before said cause =
    (behind : List PlainTrack → Result (List PlainTrack) Status) → ((es : List PlainTrack) → Reads ⊤ (λ (all : List PlainTrack). all) (Err why) (behind es))
    → Reads ⊤ (λ (all : List PlainTrack). all) (Err cause) (tracks_after most before said >>= behind)

-- tracks and batch are of no more than these files; where nothing stops the batch and files are left, it has some
pub record Fits (entries : List Entry) (progress : Progress) : Type 0 where
  pub few : length progress.taken.tracks.items + length progress.batch.files.items ≤ length entries
  pub some : progress.batch.stop ≡ None → length progress.taken.tracks.items < length entries → 0 < length progress.batch.files.items

-- the first of these files are taken, what is left leads where all of them lead, and the batch was read of what is left
pub record IsOnTheWay (settings : PlainSettings) (files : List FileBytes) (entries : List Entry) (progress : Progress) : Type 0 where
  pub leads : readings_after settings files (map plain_track progress.taken.tracks.items) (drop (length progress.taken.tracks.items) entries)
      ≡ readings_of settings files entries
  pub batch : IsBatchOf files (drop (length progress.taken.tracks.items) entries) progress.batch

-- more of them are taken, or this is why the first that is not taken is not
abbrev pub GoesOn : PlainSettings → List FileBytes → List Entry → Result Progress InputError → Type 0
GoesOn settings files entries (Ok progress) = IsOnTheWay settings files entries progress
GoesOn settings files entries (Err why) =
    Reads ⊤ (λ (progress : Progress). map plain_track progress.taken.tracks.items) (Err why) (readings_of settings files entries)
