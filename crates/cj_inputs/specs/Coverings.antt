-- Objects that have to cover the window of a run, and what is asked where they do.
use Rattle.std.specs.Prelude.{ℕ, Bool, true, false, List, [], ◌∷◌, Option, Some, None, Result, Ok, Err}
use Rattle.cj_io.specs.declared.file.FileBytes.{FileBytes}
use Rattle.cj_case.specs.PlainProblems.{PlainProblem}
use Rattle.cj_coverage.specs.Coverage.{first_uncovered}
use Rattle.cj_track.specs.PlainTracks.{PlainTrack}
use Rattle.cj_words.specs.Commands.{PlainRescreening}
use Rattle.cj_words.specs.Settings.{PlainSettings}
use Rattle.cj_status.specs.declared.status.FileCause.TheVariants.{Uncovered}
use Rattle.cj_status.specs.declared.status.Status.{Status}
use Rattle.cj_status.specs.declared.status.Status.TheVariants.{BadFile}
use Rattle.cj_status.specs.Steps.{◌>>=◌}
use Rattle.cj_inputs.specs.Cases.{case_asked}
use Rattle.cj_inputs.specs.Updates.{PlainUpdating, cases_asked}

-- no tick is left out, or the file is refused for the first one
abbrev pub whole_or : List ℕ → Option ℕ → Result (Unit {0}) Status
whole_or file None = Ok tt
whole_or file (Some micros) = Err (BadFile file 0 (Uncovered micros))

-- each of these objects has a state at each tick from first to last, or the file of the first that has not is refused
abbrev pub all_cover : ℕ → ℕ → List PlainTrack → Result (Unit {0}) Status
all_cover first last [] = Ok tt
all_cover first last (e ∷ es) = whole_or e.file (first_uncovered e first last) >>= λ done. all_cover first last es

-- the same of the objects of a case and its window, where they have to
abbrev pub covering : Bool → PlainProblem → Result (Unit {0}) Status
covering false case = Ok tt
covering true case = all_cover case.first case.last case.tracks

-- the case that is asked of the files, where its objects cover its window or need not, or the first cause for which there is none
unfoldable pub case_covered : List FileBytes → PlainSettings → Result PlainProblem Status
case_covered files settings = do
  case ← case_asked files settings
  done ← covering settings.must_cover case
  Ok case

-- the cases that are asked of a screening again, where the objects of the updated files do
unfoldable pub cases_covered : List FileBytes → PlainRescreening → Result PlainUpdating Status
cases_covered files asked = do
  cases ← cases_asked files asked
  done ← covering asked.screening.settings.must_cover cases.new
  Ok cases
