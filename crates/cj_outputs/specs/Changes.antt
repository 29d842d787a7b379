-- What is found of the pairs that are not unchanged, and what is put of it.
use Rattle.std.specs.Prelude.{◌≤◌, List, [], ◌∷◌, ◌++◌, length}
use Rattle.cj_base.specs.Bounds.{MOST_LEAVES}
use Rattle.cj_io.specs.declared.file.FileBytes.{FileBytes}
use Rattle.cj_case.specs.Problems.{plain_problem}
use Rattle.cj_case.specs.Leaves.{plain_leaves}
use Rattle.cj_meet.specs.Encounters.{encounters_of}
use Rattle.cj_report.specs.Summary.{changed_summary}
use Rattle.cj_outputs.specs.declared.changes.Changes.{Changes}
use Rattle.cj_outputs.specs.Meetings.{AreMeetings}
use Rattle.cj_outputs.specs.Outcome.{changed_bytes, changed_output, summary_output, uncovered_told}

-- the encounters are those of the leaves
pub record AreChanges (changes : Changes) : Type 0 where
  pub few : length changes.leaves.items ≤ MOST_LEAVES
  pub met : AreMeetings (plain_problem changes.problem) (plain_leaves changes.leaves.items) changes.met

-- the output of their report
abbrev pub changed_in : Changes → FileBytes
changed_in changes = changed_output (changed_bytes changes.tells (plain_problem changes.problem) (plain_leaves changes.leaves.items))

-- the output of their summary
abbrev pub changed_summary_in : Changes → FileBytes
changed_summary_in changes =
    summary_output (changed_summary (length (plain_problem changes.problem).tracks) (length (encounters_of (plain_leaves changes.leaves.items))) changes.kept
    ++ uncovered_told changes.tells (plain_problem changes.problem))

-- both, in the order in which they are put
abbrev pub changed_outputs_in : Changes → List FileBytes
changed_outputs_in changes = changed_in changes ∷ changed_summary_in changes ∷ []
