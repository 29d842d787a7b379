use Rattle.std.proofs.Common.{◌≡◌, ◌++◌, Bool, List, Option, map, take}
use Rattle.cj_case.specs.Leaves.{PlainLeaf, plain_leaves}
use Rattle.cj_meet.specs.Closest.{PlainClosest, some_closest}
use Rattle.cj_meet.specs.Encounters.{groups_in}
use Rattle.cj_report.specs.Report.{encounter_lines, numbered}
use Rattle.cj_report.proofs.encounters.push_encounters.Given as goal

abbrev pub invariant-loop-place : goal.invariant-loop-place
invariant-loop-place l = (approach : List PlainLeaf → Option PlainClosest) (has_message : List PlainLeaf → Bool)
    → map some_closest l.approaches ≡ map approach (groups_in (plain_leaves l.leaves) l.encounters) → l.messages ≡ map has_message (groups_in (plain_leaves l.leaves) l.encounters)
    → l.text.items ≡ l.fn.text.items ++ numbered (encounter_lines approach has_message) 1 (groups_in (plain_leaves l.leaves) (take l.place l.encounters))
