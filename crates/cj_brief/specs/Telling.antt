-- How the leaves that are told are found in the list of all: root by root, into a list for each slot.
use Rattle.std.specs.Prelude.{◌≡◌, ℕ, ◌==◌, ◌<◌, ◌⊎◌, List, [], ◌∷◌, map, filter}
use Rattle.std.specs.Global.{Vec}
use Rattle.std.specs.List.{flat_map}
use Rattle.cj_case.specs.PlainProblems.{PlainProblem}
use Rattle.cj_case.specs.Cells.{PlainCell}
use Rattle.cj_case.specs.declared.leaf.Leaf.{Leaf}
use Rattle.cj_case.specs.Leaves.{PlainLeaf, plain_leaves}
use Rattle.cj_case.specs.Slots.{slot_count, slot_of}
use Rattle.cj_bezier.specs.RootLeaves.{leaves_of_root, told_of_root}

-- the last of these leaves ends at a tick, and no other does
abbrev pub EndsAt : ℕ → List PlainLeaf → Type 0
EndsAt last [] = ⊥
EndsAt last (s ∷ ss) = ((s.last ≡ last) × (ss ≡ [])) ⊎ (¬ (s.last ≡ last) × EndsAt last ss)

-- a root that begins in a slot of the window, and of whose leaves only the last ends where it ends
pub record IsListed (case : PlainProblem) (r : PlainCell) : Type 0 where
  pub slot : slot_of case.first r.first < slot_count case.first case.last
  pub ends : EndsAt r.last (leaves_of_root case r)

-- the leaves of several lists
abbrev pub plain_lists : List (Vec Leaf) → List (List PlainLeaf)
plain_lists lists = map (λ list. plain_leaves list.items) lists

-- what is told of those of some roots that begin in a slot
abbrev pub told_at : PlainProblem → List PlainCell → ℕ → List PlainLeaf
told_at case rs slot = flat_map (told_of_root case) (filter (λ r. slot_of case.first r.first == slot) rs)
