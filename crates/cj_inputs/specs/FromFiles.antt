-- The ephemerides of a case against what their files say.
use Rattle.std.specs.Prelude.{◌≡◌, ℕ, List, Ok}
use Rattle.std.specs.List.{AllZip}
use Rattle.cj_io.specs.declared.file.FileBytes.{FileBytes}
use Rattle.cj_io.specs.Files.{bytes_of, names_of}
use Rattle.cj_track.specs.PlainTracks.{PlainTrack}
use Rattle.cj_case.specs.PlainProblems.{PlainProblem}
use Rattle.cj_trim.specs.Same.{IsSameWithin}
use Rattle.cj_words.specs.Settings.{PlainSettings}
use Rattle.cj_inputs.specs.declared.input_files.Entry.{Entry}
use Rattle.cj_inputs.specs.InputFiles.{apart_of, inputs_of}
use Rattle.cj_inputs.specs.Readings.{reading_of}

-- it is what a file says, but for states that no tick from first to last needs: at each of these it is between the same two
pub record IsFromFile (settings : PlainSettings) (files : List FileBytes) (first last : ℕ) (entry : Entry) (e : PlainTrack) : Type 0 where
  pub whole : PlainTrack
  pub said : reading_of settings.as_hermite3 entry.name (bytes_of files entry.number) ≡ Ok whole
  pub same : IsSameWithin first last whole e

-- so is each ephemeris of a case, of the files that are taken, in the case's window
abbrev pub AreFromFiles : PlainSettings → List FileBytes → PlainProblem → Type 0
AreFromFiles settings files case =
    AllZip (IsFromFile settings files case.first case.last) (inputs_of settings.suffix (apart_of settings) (names_of files)) case.tracks
