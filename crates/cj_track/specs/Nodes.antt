-- The rule of a list of nodes.
use Rattle.std.specs.Prelude.{◌≡◌, ◌+◌, ◌<◌, ◌≤◌, false, List, [], ◌∷◌, length}
use Rattle.cj_base.specs.LeapSeconds.{leap_lies_between}
use Rattle.cj_track.specs.declared.node.Node.{Node}
use Rattle.cj_track.specs.Limits.{MAX_STEP}

-- the second comes after the first, at most an hour later, with no leap second between
pub record IsStep (a b : Node) : Type 0 where
  pub rises : a.at.micros < b.at.micros
  pub short : b.at.micros ≤ a.at.micros + MAX_STEP
  pub steady : leap_lies_between a.at.micros b.at.micros ≡ false

-- each node is a step from the one before
abbrev pub AreSteps : List Node → Type 0
AreSteps [] = Unit {0}
AreSteps (a ∷ []) = Unit {0}
AreSteps (a ∷ b ∷ nodes) = IsStep a b × AreSteps (b ∷ nodes)

-- the nodes of a segment: two or more, in order of time
pub record AreNodes (nodes : List Node) : Type 0 where
  pub enough : 2 ≤ length nodes
  pub steps : AreSteps nodes
