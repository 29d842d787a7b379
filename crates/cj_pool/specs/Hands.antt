-- A refinery and its hands as contracts see them.
use Rattle.std.specs.Prelude.{◌≡◌, ℕ, ◌+◌, ◌%◌, ◌<◌, ◌≤◌, List, [], map, filter, length, All, nat_eq}
use Rattle.std.specs.declared.alloc.Global.{Global}
use Rattle.atomic_blocks.specs.Lent.{RowsId}
use Rattle.cj_case.specs.PlainProblems.{PlainProblem}
use Rattle.cj_case.specs.declared.problem.Problem.{Problem}
use Rattle.cj_case.specs.declared.cell.Cell.{Cell}
use Rattle.cj_case.specs.declared.leaf.Leaf.{Leaf}
use Rattle.cj_ledger.specs.Counts.{after_closes}
use Rattle.cj_ledger.specs.Shares.{LedgerSeen, ShareSeen, IsOf, IsNew}
use Rattle.cj_pool.specs.declared.account.Account.{Account}
use Rattle.cj_pool.specs.Narrow.{Narrow}
use Rattle.cj_pool.specs.Passes.{around}
use Rattle.cj_pool.specs.RootLists.{AreRoots}
use Rattle.cj_pool.specs.Tree.{InTree, IsLeafOf, IsShared}
use Rattle.cj_pool.specs.Weights.{weigh}

-- the problem, the roots, the limit, the number of hands, and which deques and which ledger they share
pub record RefinerySeen : Type 0 where
  pub problem : Problem
  pub roots : List Cell
  pub limit : ℕ
  pub hands : ℕ
  pub deques : List (RowsId × Global)
  pub ledger : LedgerSeen

-- `opening` are the roots that its deque began with, and `taken` the cells that it took from each deque, by the deque's number;
-- `uncounted` is how many of its leaves its share has not counted yet
pub record HandSeen : Type 0 where
  pub number : ℕ
  pub problem : Problem
  pub deques : List (RowsId × Global)
  pub opening : List Cell
  pub pushed : List Cell
  pub taken : List (List Cell)
  pub kept : List Cell
  pub closed : List Leaf
  pub share : ShareSeen
  pub uncounted : ℕ
  pub wants : ℕ

-- what a hand has by the account of its own deque, and by the passes below and above it
abbrev pub hand_seen : ℕ → Problem → List (RowsId × Global) → RowsId × Global → List (RowsId × Global) → List (List Cell) → Account →
    List (List Cell) → List Cell → List Leaf → ShareSeen → ℕ → ℕ → HandSeen
hand_seen number problem below own above taken_below account taken_above kept closed share uncounted wants = record {
  number = number;
  problem = problem;
  deques = around below own above;
  opening = account.opening;
  pushed = account.pushed;
  taken = around taken_below account.taken taken_above;
  kept = kept;
  closed = closed;
  share = share;
  uncounted = uncounted;
  wants = wants;
}

-- a hand of this refinery
abbrev pub IsHandOf : RefinerySeen → HandSeen → Type 0
IsHandOf r h = (h.deques ≡ r.deques) × IsOf r.ledger h.share

-- what a hand keeps for its whole life
pub record SameHand (old new : HandSeen) : Type 0 where
  pub number : new.number ≡ old.number
  pub problem : new.problem ≡ old.problem
  pub opening : new.opening ≡ old.opening

-- the cells of leaves
abbrev pub cells_of : List Leaf → List Cell
cells_of leaves = map (λ leaf. leaf.cell) leaves

-- the roots of the deque with this number, of so many deques
abbrev pub roots_dealt : List Cell → ℕ → ℕ → List Cell
roots_dealt roots hands number = filter (λ c. nat_eq (c.root % hands) number) roots

-- The account of a hand, of so many: what it took is what it closed, pushed and keeps. Its leaves are counted, or are to be counted.
pub record Accounts (case : PlainProblem) (roots : List Cell) (n : ℕ) (h : HandSeen) : Type 0 where
  pub roots_are : AreRoots case roots
  pub number : h.number < n
  pub deques : length h.deques ≡ n
  pub passes : length h.taken ≡ n
  pub opening : h.opening ≡ roots_dealt roots n h.number
  pub balanced : (w : Cell → ℕ) → IsShared case w → weigh (weigh w) h.taken ≡ weigh w (cells_of h.closed) + weigh w h.pushed + weigh w h.kept
  pub tree : All (InTree case roots) h.kept
  pub leaves : All (IsLeafOf case roots) h.closed
  pub closes : h.share.count.closes + h.uncounted ≡ length h.closed
  pub splits : h.share.count.firsts + weigh length h.taken ≡ length h.closed + length h.pushed + length h.kept
  pub pushes : length h.pushed ≤ h.share.count.firsts
  pub narrow : Narrow 26 h.kept

-- the share of a hand, once it has counted all of its leaves
abbrev pub settled_share : HandSeen → ShareSeen
settled_share h = record { ledger = h.share.ledger; count = after_closes h.share.count h.uncounted }

-- nothing was closed, pushed, kept or taken, and no turn wanted memory
pub record IsUnstarted (h : HandSeen) : Type 0 where
  pub closed : h.closed ≡ []
  pub pushed : h.pushed ≡ []
  pub kept : h.kept ≡ []
  pub taken : All (λ cells. cells ≡ []) h.taken
  pub wants : h.wants ≡ 0

-- a hand that took no turn
pub record IsFresh (r : RefinerySeen) (h : HandSeen) : Type 0 where
  pub unstarted : IsUnstarted h
  pub share : IsNew r.ledger h.share
  pub opening : h.opening ≡ roots_dealt r.roots r.hands h.number
