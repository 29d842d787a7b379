-- What is found in a problem, and what is put of it.
use Rattle.std.specs.Prelude.{◌≡◌, ℕ, ◌≤◌, List, [], ◌++◌, length, map, Result, Ok, Err}
use Rattle.cj_base.specs.Bounds.{MOST_LEAVES}
use Rattle.cj_io.specs.declared.file.FileBytes.{FileBytes}
use Rattle.cj_case.specs.PlainProblems.{PlainProblem}
use Rattle.cj_case.specs.Problems.{plain_problem}
use Rattle.cj_case.specs.Leaves.{PlainLeaf, plain_leaves}
use Rattle.cj_cells.specs.Lists.{list_candidates}
use Rattle.cj_meet.specs.Closest.{closest_of, some_closest}
use Rattle.cj_meet.specs.Encounters.{AreEncounters, encounters_of, groups_in}
use Rattle.cj_report.specs.Counts.{tally_of}
use Rattle.cj_report.specs.Summary.{kept_line}
use Rattle.cj_outputs.specs.declared.findings.Behind.{Behind}
use Rattle.cj_outputs.specs.declared.findings.Behind.TheVariants.{Nothing, CheckAccepted, Kept}
use Rattle.cj_outputs.specs.declared.findings.Findings.{Findings}
use Rattle.cj_status.specs.declared.status.Status.{Status}
use Rattle.cj_status.specs.declared.status.Status.TheVariants as status
use Rattle.cj_outputs.specs.Messages.{PlainOrigin, has_message, message_outputs}
pub use Rattle.cj_outputs.specs.Outcome.{told_in}
use Rattle.cj_outputs.specs.Lines.{AreLines, format_of, leaves_met}
use Rattle.cj_outputs.specs.Outcome.{cert_bytes, cert_output, check_accepted, outputs_with, report_bytes, report_output, summary_with, uncovered_told}
use Rattle.cj_outputs.specs.Summaries.{tally_with}

-- the case whose findings they are
abbrev pub case_in : Findings → PlainProblem
case_in found = plain_problem found.problem

-- the leaves of which its encounters are
abbrev pub met_in : Findings → List PlainLeaf
met_in found = plain_leaves (leaves_met found.lines)

-- they are what the definitions give of that case
pub record AreFound (found : Findings) : Type 0 where
  pub lines : AreLines (case_in found) found.lines
  pub format : format_of found.lines ≡ found.wanted.format
  pub few : length (leaves_met found.lines) ≤ MOST_LEAVES
  pub encounters : AreEncounters (met_in found) found.encounters.items
  pub closest : map some_closest found.closest.items ≡ map (closest_of (case_in found)) (groups_in (met_in found) found.encounters.items)
  pub messages : found.messages.items ≡ map (has_message (case_in found)) (groups_in (met_in found) found.encounters.items)
  pub counts : tally_of found.counts ≡ tally_with (case_in found) (list_candidates (case_in found))

-- the output of the report
abbrev pub report_in : Findings → FileBytes
report_in found = report_output (report_bytes found.wanted.tells (case_in found) (list_candidates (case_in found)))

-- the output of the certificate
abbrev pub cert_in : Findings → FileBytes
cert_in found = cert_output (cert_bytes found.wanted.format (case_in found))

-- the outputs of the messages
abbrev pub messages_in : PlainOrigin → Findings → List FileBytes
messages_in origin found = message_outputs (case_in found) origin (encounters_of (list_candidates (case_in found)))

-- the lines behind the summary
abbrev pub lines_of : Behind → List ℕ
lines_of Nothing = []
lines_of CheckAccepted = check_accepted
lines_of (Kept pairs) = kept_line pairs

-- the output of the summary
abbrev pub summary_in : Findings → FileBytes
summary_in found = summary_with (lines_of found.behind ++ uncovered_told found.wanted.tells (case_in found)) (case_in found) (list_candidates (case_in found))

-- all outputs, in the order in which they are put
abbrev pub outputs_in : PlainOrigin → Findings → List FileBytes
outputs_in origin found = outputs_with found.wanted.tells found.wanted.format origin (lines_of found.behind) (case_in found) (list_candidates (case_in found))

-- how a run ends by its last step
abbrev pub ended : Result (Unit {0}) Status → Status
ended (Ok done) = status.Ok
ended (Err s) = s
