-- What is told of the encounters of a problem.
use Rattle.std.specs.Prelude.{◌≡◌, List, map}
use Rattle.cj_case.specs.PlainProblems.{PlainProblem}
use Rattle.cj_case.specs.Leaves.{PlainLeaf}
use Rattle.cj_meet.specs.Closest.{closest_of, some_closest}
use Rattle.cj_meet.specs.Encounters.{AreEncounters, groups_in}
use Rattle.cj_outputs.specs.Messages.{has_message}
use Rattle.cj_outputs.specs.declared.meetings.Meetings.{Meetings}

-- the encounters of these leaves of a case, the closest approach of each and whether it has a message
pub record AreMeetings (case : PlainProblem) (leaves : List PlainLeaf) (found : Meetings) : Type 0 where
  pub encounters : AreEncounters leaves found.encounters.items
  pub closest : map some_closest found.closest.items ≡ map (closest_of case) (groups_in leaves found.encounters.items)
  pub messages : found.messages.items ≡ map (has_message case) (groups_in leaves found.encounters.items)
