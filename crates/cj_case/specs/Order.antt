-- Leaves in order of pair and time.
use Rattle.std.specs.Prelude.{◌≡◌, ◌<◌, ◌≤◌, List, All, AllPairs}
use Rattle.cj_case.specs.Leaves.{PlainLeaf}

-- s lies before t: in an earlier pair, or in the same pair at earlier ticks
pub record IsBefore (s t : PlainLeaf) : Type 0 where
  pub first_object : s.a ≤ t.a
  pub second_object : s.a ≡ t.a → s.b ≤ t.b
  pub ticks : s.a ≡ t.a → s.b ≡ t.b → s.last < t.first

-- each leaf lies before all later ones, so that no two overlap
abbrev pub AreInOrder : List PlainLeaf → Type 0
AreInOrder ss = AllPairs IsBefore ss

-- each leaf has a tick
abbrev pub HaveTicks : List PlainLeaf → Type 0
HaveTicks ss = All (λ s. s.first ≤ s.last) ss
