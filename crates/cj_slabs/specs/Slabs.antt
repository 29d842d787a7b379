-- What is found in some slots.
use Rattle.std.specs.Prelude.{◌≡◌, ℕ, ◌+◌, ◌<◌, ◌≤◌, ◌++◌, Bool, true, false, List, [], ◌∷◌, All, flat_map, if◌then◌else◌, length, min}
use Rattle.std.specs.Global.{Vec}
use Rattle.std.specs.List.{list_all, sum_by}
use Rattle.cj_case.specs.PlainProblems.{PlainProblem}
use Rattle.cj_case.specs.Cells.{PlainCell}
use Rattle.cj_case.specs.declared.kind.Kind.TheVariants.{Far}
use Rattle.cj_case.specs.declared.leaf.Leaf.{Leaf}
use Rattle.cj_case.specs.Leaves.{PlainLeaf, plain_leaves, same_kind}
use Rattle.cj_hermite.specs.Roots.{roots_in_slot}
use Rattle.cj_bezier.specs.Candidates.{candidate_pairs}
use Rattle.cj_bezier.specs.RootLeaves.{leaves_of_root, leaves_of_roots, told_of_root, Describe}
use Rattle.cj_slabs.specs.declared.sifted.Sifted.{Sifted}
use Rattle.cj_slabs.specs.declared.slab.Slab.{Slab}
use Rattle.cj_slabs.specs.declared.slab.Outcome.{Outcome}
use Rattle.cj_slabs.specs.declared.slab.Outcome.TheVariants.{Whole, Counted, Stopped}
use Rattle.cj_slabs.specs.declared.leaf_limits.LeafLimits.{LeafLimits}
use Rattle.cj_slabs.specs.declared.so_far.SoFar.{SoFar}
use Rattle.cj_slabs.specs.declared.so_far.SoFar.TheVariants.{Kept, Given}
use Rattle.cj_slabs.specs.Counts.{AddCounts, AreCountsOf}

-- the roots of the candidates of a slot
abbrev pub slot_roots : PlainProblem → ℕ → List PlainCell
slot_roots case slot = roots_in_slot case slot (candidate_pairs case slot)

-- of some slots, slot by slot
abbrev pub roots_at : PlainProblem → List ℕ → List PlainCell
roots_at case slots = flat_map (slot_roots case) slots

-- how many candidates there are there, summed over the slots
abbrev pub candidates_at : PlainProblem → List ℕ → ℕ
candidates_at case slots = sum_by (λ slot. length (candidate_pairs case slot)) slots

-- what is told of the leaves of a root: all of them, but none where each is far
abbrev pub told_of : List PlainLeaf → List PlainLeaf
told_of ss = if list_all (λ s. same_kind Far s.kind) ss then [] else ss

-- the leaves that are told of some roots
abbrev pub told_of_roots : PlainProblem → List PlainCell → List PlainLeaf
told_of_roots case rs = flat_map (told_of_root case) rs

-- the leaves of several lists, one list behind another
abbrev pub leaves_listed : List (Vec Leaf) → List Leaf
leaves_listed lists = flat_map (λ list. list.items) lists

-- the leaves of these roots describe them
abbrev pub AreDescribed : PlainProblem → List PlainCell → Type 0
AreDescribed case rs = All (λ r. Describe case r (leaves_of_root case r)) rs

-- a slab has these roots more: their leaves are told or counted
pub record AddRoots (case : PlainProblem) (rs : List PlainCell) (old new : Slab) : Type 0 where
  pub told : plain_leaves new.told.items ≡ plain_leaves old.told.items ++ told_of_roots case rs
  pub counts : AddCounts case rs old.counts new.counts
  pub described : AreDescribed case rs
  pub touching : new.touching ≡ old.touching

-- a slab has this slot more
pub record AddSlot (case : PlainProblem) (slot : ℕ) (old new : Slab) : Type 0 where
  pub told : plain_leaves new.told.items ≡ plain_leaves old.told.items ++ told_of_roots case (slot_roots case slot)
  pub counts : AddCounts case (slot_roots case slot) old.counts new.counts
  pub described : AreDescribed case (slot_roots case slot)
  pub touching : new.touching ≡ min (old.touching + length (candidate_pairs case slot)) 18_446_744_073_709_551_615

-- a slab is what is found in these slots
pub record IsSlabOf (case : PlainProblem) (slots : List ℕ) (slab : Slab) : Type 0 where
  pub told : plain_leaves slab.told.items ≡ told_of_roots case (roots_at case slots)
  pub counts : AreCountsOf case (roots_at case slots) slab.counts
  pub described : AreDescribed case (roots_at case slots)
  pub touching : slab.touching ≡ min (candidates_at case slots) 18_446_744_073_709_551_615

-- several slabs are what is found in these slots
pub record AreSlabsOf (case : PlainProblem) (slots : List ℕ) (found : Sifted) : Type 0 where
  pub told : plain_leaves (leaves_listed found.slabs.items) ≡ told_of_roots case (roots_at case slots)
  pub counts : AreCountsOf case (roots_at case slots) found.counts
  pub described : AreDescribed case (roots_at case slots)
  pub touching : found.touching ≡ min (candidates_at case slots) 18_446_744_073_709_551_615

-- how many leaves there are at least
abbrev pub least : Outcome → ℕ
least (Whole slab) = slab.counts.leaves
least (Counted leaves told) = leaves
least (Stopped leaves) = leaves

-- how many there are at least in all
abbrev pub least_of : List Outcome → ℕ
least_of outcomes = sum_by least outcomes

-- how many of them are told, as far as is known
abbrev pub told_by_outcome : Outcome → ℕ
told_by_outcome (Whole slab) = length slab.told.items
told_by_outcome (Counted leaves told) = told
told_by_outcome (Stopped leaves) = 0

-- how many are told in all, as far as is known
abbrev pub told_by_outcomes : List Outcome → ℕ
told_by_outcomes outcomes = sum_by told_by_outcome outcomes

-- the slots were searched to their end
abbrev pub is_searched : Outcome → Bool
is_searched (Whole slab) = true
is_searched (Counted leaves told) = true
is_searched (Stopped leaves) = false

-- this came of these slots
abbrev pub IsOutcome : PlainProblem → List ℕ → Outcome → Type 0
IsOutcome case slots (Whole slab) = IsSlabOf case slots slab
IsOutcome case slots (Counted leaves told) = (leaves ≡ length (leaves_of_roots case (roots_at case slots))) × (told ≡ length (told_of_roots case (roots_at case slots)))
IsOutcome case slots (Stopped leaves) = leaves ≤ length (leaves_of_roots case (roots_at case slots))

-- these came of the first slots, of those behind them and so on
abbrev pub AreOutcomes : PlainProblem → List ℕ → List Outcome → Type 0
AreOutcomes case slots [] = slots ≡ []
AreOutcomes case slots (outcome ∷ outcomes) =
    (some : List ℕ) × (rest : List ℕ) × (slots ≡ some ++ rest) × IsOutcome case some outcome × AreOutcomes case rest outcomes

-- where all slots were searched, there are no more leaves than may be, and what is told is kept exactly where that is no more than may be; what was
-- stopped has more leaves
abbrev pub IsWithinOrOver : LeafLimits → Outcome → Type 0
IsWithinOrOver limits (Whole slab) = (slab.counts.leaves ≤ limits.leaves) × (length slab.told.items ≤ limits.told)
IsWithinOrOver limits (Counted leaves told) = (leaves ≤ limits.leaves) × (limits.told < told)
IsWithinOrOver limits (Stopped leaves) = limits.leaves < leaves

-- a thread that searches alone found this in these slots: what is told is kept, and so many more may be, or more is told than may be
abbrev pub AreSoFar : LeafLimits → PlainProblem → List ℕ → SoFar → Type 0
AreSoFar limits case slots (Kept found room) = AreSlabsOf case slots found × (room + length (leaves_listed found.slabs.items) ≡ limits.told)
AreSoFar limits case slots (Given leaves) = (leaves ≡ length (leaves_of_roots case (roots_at case slots))) × (limits.told < length (told_of_roots case (roots_at case slots)))

-- how many leaves it found
abbrev pub leaves_so_far : SoFar → ℕ
leaves_so_far (Kept found room) = found.counts.leaves
leaves_so_far (Given leaves) = leaves
