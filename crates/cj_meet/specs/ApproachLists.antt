-- The closest approaches of some encounters, in order.
use Rattle.std.specs.Prelude.{◌≡◌, List, map, All}
use Rattle.cj_case.specs.PlainProblems.{PlainProblem}
use Rattle.cj_case.specs.declared.encounter.Closest.{Closest}
use Rattle.cj_case.specs.declared.encounter.Encounter.{Encounter}
use Rattle.cj_case.specs.Leaves.{PlainLeaf}
use Rattle.cj_meet.specs.Closest.{HasNearest, closest_of, some_closest}
use Rattle.cj_meet.specs.Encounters.{groups_in}

-- they are the closest approaches of these encounters of these leaves, and each says what one says of the distance
pub record AreClosest (case : PlainProblem) (ss : List PlainLeaf) (es : List Encounter) (found : List Closest) : Type 0 where
  pub exact : map some_closest found ≡ map (closest_of case) (groups_in ss es)
  pub law : All (HasNearest case) (groups_in ss es)
