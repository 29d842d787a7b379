-- What the hands of a refinery come to.
use Rattle.std.specs.Prelude.{◌≡◌, ℕ, ◌+◌, ◌<◌, ◌≤◌, List, map, take, length, All}
use Rattle.std.specs.Global.{Vec}
use Rattle.std.specs.List.{flat_map, range_with_len}
use Rattle.cj_base.specs.Bounds.{MOST_LEAVES}
use Rattle.cj_hermite.specs.Lengths.{HaveLengths}
use Rattle.cj_case.specs.Problems.{plain_problem}
use Rattle.cj_case.specs.declared.problem.Problem.{Problem}
use Rattle.cj_case.specs.declared.cell.Cell.{Cell}
use Rattle.cj_case.specs.declared.leaf.Leaf.{Leaf}
use Rattle.cj_case.specs.Cells.{plain_cells}
use Rattle.cj_case.specs.Leaves.{PlainLeaf}
use Rattle.cj_bezier.specs.RootLeaves.{leaves_of_roots}
use Rattle.cj_ledger.specs.declared.totals.Totals.{Totals}
use Rattle.cj_pool.specs.declared.refined.FinishError.{FinishError}
use Rattle.cj_pool.specs.declared.refined.FinishError.TheVariants.{Memory, TooMany}
use Rattle.cj_pool.specs.Hands.{RefinerySeen, HandSeen, Accounts, cells_of}
use Rattle.cj_pool.specs.RootLists.{AreRoots}
use Rattle.cj_pool.specs.Tree.{InTree}
use Rattle.cj_pool.specs.Weights.{weigh, has}

-- the leaves of all roots of a refinery, in order
abbrev pub leaves_wanted : RefinerySeen → List PlainLeaf
leaves_wanted r = leaves_of_roots (plain_problem r.problem) (plain_cells r.roots)

-- a refusal of so many leaves, or for memory
abbrev pub IsTooMany : ℕ → ℕ → FinishError → Type 0
IsTooMany limit leaves Memory = Unit {0}
IsTooMany limit leaves (TooMany told) = (told ≡ limit) × (limit < leaves)

-- a refusal says that memory ran out, or that there are more leaves than the limit
abbrev pub Stands : RefinerySeen → FinishError → Type 0
Stands r error = IsTooMany r.limit (length (leaves_wanted r)) error

-- so many roots, and one halving less than there are leaves beside them
pub record TotalsOf (roots leaves : ℕ) (totals : Totals) : Type 0 where
  pub roots_are : totals.roots ≡ roots
  pub closes : totals.closes ≡ leaves
  pub each : totals.closes ≡ totals.roots + totals.splits

-- The cells that were left in the deques, by what all hands did: all that was opened and pushed was taken or is left; and each tick of
-- the roots is in a leaf that a hand closed, in a cell that a hand keeps, or in one that is left.
pub record AreLeft (r : RefinerySeen) (hands : List HandSeen) (left : List Cell) : Type 0 where
  pub queues : (w : Cell → ℕ) → weigh w r.roots + weigh (λ h. weigh w h.pushed) hands ≡ weigh (λ h. weigh (weigh w) h.taken) hands + weigh w left
  pub ticks : (a b m : ℕ) → weigh (λ h. weigh (has a b m) (cells_of h.closed) + weigh (has a b m) h.kept) hands + weigh (has a b m) left ≡ weigh (has a b m) r.roots

-- the numbers of hands
abbrev pub numbers_of : List HandSeen → List ℕ
numbers_of hands = map (λ h. h.number) hands

-- the leaves that hands have closed, hand by hand
abbrev pub leaves_in : List HandSeen → List Leaf
leaves_in hands = flat_map (λ h. h.closed) hands

-- the leaves of several runs, run by run
abbrev pub in_runs : List (Vec Leaf) → List Leaf
in_runs runs = flat_map (λ run. run.items) runs

-- the cells that hands keep
abbrev pub kept_in : List HandSeen → List Cell
kept_in hands = flat_map (λ h. h.kept) hands

-- a refinery of the run with this problem, these roots and so many workers
pub record IsOfRun (problem : Problem) (roots : List Cell) (workers : ℕ) (r : RefinerySeen) : Type 0 where
  pub problem_is : r.problem ≡ problem
  pub roots_are : r.roots ≡ roots
  pub hands_are : r.hands ≡ workers

-- a refinery of few enough roots, whose interpolants have lengths
pub record IsSoundRun (r : RefinerySeen) : Type 0 where
  pub long : HaveLengths (plain_problem r.problem)
  pub roots_are : AreRoots (plain_problem r.problem) r.roots
  pub few_roots : length r.roots ≤ r.limit
  pub few_leaves : r.limit ≤ MOST_LEAVES
  pub some : 1 ≤ r.hands

-- the cells that are open at the end are those that hands keep and those that are left in deques; however cells are weighed, what was
-- opened and pushed is what was taken and is left
pub record AreOpen (hands : List HandSeen) (cells : List Cell) : Type 0 where
  pub kept : take (length (kept_in hands)) cells ≡ kept_in hands
  pub queues : (w : Cell → ℕ) → weigh w (kept_in hands) + weigh (λ h. weigh w h.opening + weigh w h.pushed) hands
      ≡ weigh (λ h. weigh (weigh w) h.taken) hands + weigh w cells

-- all hands of a refinery, and the cells that are open at the end
pub record AreAll (r : RefinerySeen) (hands : List HandSeen) (cells : List Cell) : Type 0 where
  pub sound : IsSoundRun r
  pub accounts : All (Accounts (plain_problem r.problem) r.roots r.hands) hands
  pub numbers : numbers_of hands ≡ range_with_len 0 r.hands
  pub open_cells : AreOpen hands cells
  pub trees : All (InTree (plain_problem r.problem) r.roots) cells
