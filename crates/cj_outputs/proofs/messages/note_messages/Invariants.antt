use Rattle.std.proofs.Common.{◌≡◌, List, All, map, take}
use Rattle.cj_case.specs.Problems.{plain_problem}
use Rattle.cj_case.specs.Leaves.{PlainLeaf}
use Rattle.cj_meet.specs.Closest.{closest_of, some_closest}
use Rattle.cj_meet.specs.Encounters.{Describes, groups_in}
use Rattle.cj_outputs.specs.Messages.{has_message}
use Rattle.cj_outputs.proofs.messages.note_messages.Given as goal

abbrev pub invariant-loop-place : goal.invariant-loop-place
invariant-loop-place l = (ss : List PlainLeaf) → All (Describes ss) l.encounters → map some_closest l.closest ≡ map (closest_of (plain_problem l.problem)) (groups_in ss l.encounters)
    → l.noted.items ≡ map (has_message (plain_problem l.problem)) (groups_in ss (take l.place l.encounters))
