-- What becomes of the two halves of a cell.
use Rattle.std.specs.Prelude.{◌≡◌, ℕ, ◌+◌, ◌≤◌, List, [], ◌∷◌, ◌++◌, length}
use Rattle.cj_case.specs.declared.cell.Cell.{Cell}
use Rattle.cj_pool.specs.declared.account.Account.{Account}
use Rattle.cj_pool.specs.declared.turn.Turn.{Turn}
use Rattle.cj_pool.specs.declared.turn.Turn.TheVariants.{Split, Kept}
use Rattle.cj_pool.specs.Accounts.{with_pushed}

-- the first is kept, and the second was pushed
pub record ArePushed (old new : Account) (before after : List Cell) (first second : Cell) : Type 0 where
  pub own : new ≡ with_pushed old (second ∷ [])
  pub kept : after ≡ before ++ first ∷ []

-- so many cells are enough for others
abbrev pub enough : ℕ
enough = 4

-- of what was opened and pushed, so many cells were not taken by the owner
abbrev pub IsEnough : Account → Type 0
IsEnough v = length v.taken + enough ≤ length v.opening + length v.pushed

-- both are kept, the first to be looked at next
pub record AreKept (old new : Account) (before after : List Cell) (first second : Cell) : Type 0 where
  pub own : new ≡ old
  pub kept : after ≡ (before ++ second ∷ []) ++ first ∷ []

-- as the turn says
pub data AreParted (old new : Account) (before after : List Cell) (first second : Cell) (turn : Turn) : Type 0 where
  pushed_one : turn ≡ Split → ArePushed old new before after first second → AreParted old new before after first second turn
  held_both : turn ≡ Kept → IsEnough old → AreKept old new before after first second → AreParted old new before after first second turn
