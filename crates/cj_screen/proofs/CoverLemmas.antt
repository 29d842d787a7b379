-- Covered spans hold the ticks at which there is a state, and a window is covered where it has to be.
use Rattle.std.proofs.Common.{◌≡◌, true, List, Ok}
use Rattle.cj_io.specs.declared.file.FileBytes.{FileBytes}
use Rattle.cj_case.specs.PlainProblems.{PlainProblem}
use Rattle.cj_coverage.proofs.CoverageLemmas.{exact}
use Rattle.cj_words.specs.Commands.{PlainRescreening}
use Rattle.cj_words.specs.Settings.{PlainSettings}
use Rattle.cj_inputs.specs.Coverings.{case_covered, cases_covered}
use Rattle.cj_inputs.specs.Updates.{PlainUpdating}
use Rattle.cj_inputs.proofs.CoveringLemmas.{all_covered, asked_there, cases_there}
use Rattle.cj_screen.specs.Headline.{CoverAll, CoverExactly}

pub covers_exactly : (case : PlainProblem) → CoverExactly case
covers_exactly case k d below m = exact _ case.first case.last m

pub whole_window : (files : List FileBytes) (settings : PlainSettings) (case : PlainProblem) → case_covered files settings ≡ Ok case → settings.must_cover ≡ true → CoverAll case
whole_window files settings case read must = all_covered case (rw must at (asked_there files settings case read).1)

pub whole_windows : (files : List FileBytes) (asked : PlainRescreening) (cases : PlainUpdating) → cases_covered files asked ≡ Ok cases → asked.screening.settings.must_cover ≡ true → CoverAll cases.new
whole_windows files asked cases read must = all_covered cases.new (rw must at (cases_there files asked cases read).1)
