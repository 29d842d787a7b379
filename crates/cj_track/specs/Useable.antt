-- The rule of a useable span against its nodes.
use Rattle.std.specs.Prelude.{ℕ, ◌≤◌, List, [], ◌∷◌}
use Rattle.cj_track.specs.declared.node.Node.{Node}

-- the tick of the last node, or the given one where there is none
abbrev pub last_tick : ℕ → List Node → ℕ
last_tick tick [] = tick
last_tick tick (node ∷ nodes) = last_tick node.at.micros nodes

-- the tick of the first node, or the given one where there is none
abbrev pub first_tick : ℕ → List Node → ℕ
first_tick tick [] = tick
first_tick tick (node ∷ nodes) = node.at.micros

-- the span from `first` to `last` lies from the first node to the last
pub record LiesWithin (first last : ℕ) (nodes : List Node) : Type 0 where
  pub from : first_tick first nodes ≤ first
  pub to : last ≤ last_tick last nodes
