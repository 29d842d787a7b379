-- What a turn does to its hand.
use Rattle.std.specs.Prelude.{◌≡◌, ◌⊎◌, ℕ, ◌+◌, ◌-◌, ◌^◌, ◌<◌, ◌≤◌, List, [], ◌∷◌, ◌++◌, Some, length, min, slice_index_or}
use Rattle.cj_case.specs.PlainProblems.{PlainProblem}
use Rattle.cj_case.specs.declared.cell.Cell.{Cell}
use Rattle.cj_case.specs.declared.leaf.Leaf.{Leaf}
use Rattle.cj_case.specs.Cells.{plain_cell}
use Rattle.cj_bezier.specs.RootLeaves.{kind_of_cell}
use Rattle.cj_ledger.specs.declared.count.Count.{Count}
use Rattle.cj_ledger.specs.declared.why.Why.{Why}
use Rattle.cj_ledger.specs.Words.{why_of}
use Rattle.cj_pool.specs.declared.turn.Turn.{Turn}
use Rattle.cj_pool.specs.declared.turn.Turn.TheVariants.{Closed, Split, Kept, Idle, Done, Halted}
use Rattle.cj_pool.specs.Hands.{RefinerySeen, HandSeen}
use Rattle.cj_pool.specs.Parted.{enough}
use Rattle.cj_pool.specs.Passes.{taken_at}
use Rattle.cj_pool.specs.Tree.{Halved}
use Rattle.cj_pool.specs.Weights.{weigh}

-- where the cell of a turn came from: it was the last that was kept, and `rest` are the others; or nothing was kept, and it was taken
-- from the deque with the number d
pub data CellCame (kept : List Cell) (old new : List (List Cell)) (c : Cell) (rest : List Cell) : Type 0 where
  held : kept ≡ rest ++ c ∷ [] → new ≡ old → CellCame kept old new c rest
  took : (d : ℕ) → d < length old → kept ≡ [] → rest ≡ [] → new ≡ taken_at old d c → CellCame kept old new c rest

abbrev pub Came : HandSeen → HandSeen → Cell → List Cell → Type 0
Came old new c rest = CellCame old.kept old.taken new.taken c rest

-- no cell was taken, closed, pushed or kept
pub record SameCells (old new : HandSeen) : Type 0 where
  pub taken : new.taken ≡ old.taken
  pub closed : new.closed ≡ old.closed
  pub pushed : new.pushed ≡ old.pushed
  pub kept : new.kept ≡ old.kept

-- in this turn the number of live cells was this at a step
abbrev pub Heard : ℕ → HandSeen → HandSeen → Type 0
Heard live old new = (new.share.count.live.last ≡ live) × (old.share.count.live.times < new.share.count.live.times)

-- a cell was closed
pub record MadeLeaf (case : PlainProblem) (old new : HandSeen) : Type 0 where
  pub leaf : Leaf
  pub came : Came old new leaf.cell new.kept
  pub kind : kind_of_cell case (plain_cell leaf.cell) ≡ Some leaf.kind
  pub closed : new.closed ≡ old.closed ++ leaf ∷ []
  pub pushed : new.pushed ≡ old.pushed

-- a cell was halved, one half is kept and the other was pushed
pub record MadeHalves (case : PlainProblem) (old new : HandSeen) : Type 0 where
  pub cell : Cell
  pub left : Cell
  pub right : Cell
  pub rest : List Cell
  pub came : Came old new cell rest
  pub halved : Halved case cell left right
  pub kept : new.kept ≡ rest ++ left ∷ []
  pub pushed : new.pushed ≡ old.pushed ++ right ∷ []
  pub closed : new.closed ≡ old.closed

-- a cell was halved, and both halves are kept in its place
pub record KeptBoth (case : PlainProblem) (old new : HandSeen) : Type 0 where
  pub cell : Cell
  pub left : Cell
  pub right : Cell
  pub rest : List Cell
  pub came : Came old new cell rest
  pub halved : Halved case cell left right
  pub kept : new.kept ≡ (rest ++ right ∷ []) ++ left ∷ []
  pub pushed : new.pushed ≡ old.pushed
  pub closed : new.closed ≡ old.closed

-- of the roots and halves that were put into its deque, the hand has not taken so many as are enough for others; where it is alone, they are
-- in the deque
abbrev pub LeavesEnough : HandSeen → Type 0
LeavesEnough h = length (slice_index_or h.taken h.number []) + enough ≤ length h.opening + length h.pushed

-- no cell was found, all leaves of the hand are counted, and some cells are live, or are leaves of others that are not counted yet; a hand
-- that is alone then has taken all that its deque ever had
pub record FoundNone (r : RefinerySeen) (old new : HandSeen) (live : ℕ) : Type 0 where
  pub same : SameCells old new
  pub held : old.kept ≡ []
  pub counted : new.uncounted ≡ 0
  pub some : 0 < live
  pub heard : Heard live old new
  pub alone : r.hands ≡ 1 → (w : Cell → ℕ) → weigh w new.opening + weigh w new.pushed ≡ weigh (weigh w) new.taken

-- no cell was found, all leaves of the hand are counted, and no cell is live
pub record FoundEnd (old new : HandSeen) : Type 0 where
  pub same : SameCells old new
  pub counted : new.uncounted ≡ 0
  pub heard : Heard 0 old new

-- the hands are to stop, as was told in this turn
pub record WasHalted (why : Why) (old new : HandSeen) : Type 0 where
  pub same : SameCells old new
  pub told : why_of new.share.count.halts.last ≡ Some why
  pub leaves : new.share.count.leaves ≡ old.share.count.leaves
  pub heard : old.share.count.halts.times < new.share.count.halts.times

abbrev pub Made : PlainProblem → RefinerySeen → HandSeen → HandSeen → Turn → Type 0
Made case r old new Closed = MadeLeaf case old new
Made case r old new Split = MadeHalves case old new
Made case r old new Kept = KeptBoth case old new
Made case r old new (Idle live) = FoundNone r old new live
Made case r old new Done = FoundEnd old new
Made case r old new (Halted why) = WasHalted why old new

-- a turn that wanted memory left all cells as they were, or kept both halves of one
abbrev pub Wanted : PlainProblem → HandSeen → HandSeen → Type 0
Wanted case old new = SameCells old new ⊎ KeptBoth case old new

-- one more, up to the greatest number
abbrev pub one_want_more : ℕ → ℕ
one_want_more wants = min (wants + 1) (2 ^ 64 - 1)

-- the bit of too many cells is set just where the split of this turn answered more than the limit
abbrev pub SetsCells : ℕ → Count → Count → Type 0
SetsCells limit v w =
    ((w.cells ≡ v.cells) × ((w.leaves ≡ v.leaves) ⊎ ((v.leaves.times < w.leaves.times) × (w.leaves.last ≤ limit))))
    ⊎ ((w.cells ≡ v.cells + 1) × (v.leaves.times < w.leaves.times) × (limit < w.leaves.last))

-- The hand was told that no cell is live, or that the hands are to stop; or it told them so.
abbrev pub Ended : HandSeen → Type 0
Ended h =
    ((h.share.count.live.last ≡ 0) × (0 < h.share.count.live.times))
    ⊎ (((0 < h.share.count.halts.last) × (0 < h.share.count.halts.times)) ⊎ (0 < h.share.count.cells + h.share.count.memory))

-- a number that stays at its greatest value rose
abbrev pub Rose : ℕ → ℕ → Type 0
Rose old new = (old < new) ⊎ (new ≡ 2 ^ 64 - 1)
