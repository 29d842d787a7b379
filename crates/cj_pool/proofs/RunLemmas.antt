-- What the turns of a run do to the halt bits.
use Rattle.std.proofs.Common.{◌≡◌, ◌⊎◌, ℕ, zero, suc, ◌<◌, ◌≤◌, inl, inr, ap, ◌∙◌, arith}
use Rattle.std.specs.Prelude.{Some}
use Rattle.cj_ledger.specs.declared.count.Count.{Count}
use Rattle.cj_ledger.specs.declared.why.Why.{Why}
use Rattle.cj_ledger.specs.Words.{why_of}
use Rattle.cj_pool.specs.Turns.{SetsCells}

-- where a cause to stop was told, a bit was set
pub why_some : (halts : ℕ) (why : Why) → why_of halts ≡ Some why → 0 < halts
why_some zero why told = absurd (cc)
why_some (suc halts) why told = omega arith

-- the hand has not set the bit of too many cells since this; or it has, after it was told of more leaves than the limit
pub data StoppedFor (limit : ℕ) (begin now : Count) : Type 0 where
  never : now.cells ≡ begin.cells → begin.leaves.times ≤ now.leaves.times → StoppedFor limit begin now
  cells : 0 < now.cells → limit < now.leaves.last → begin.leaves.times < now.leaves.times → StoppedFor limit begin now

-- after a turn
pub after_turn : (limit : ℕ) (begin old new : Count) → StoppedFor limit begin old → SetsCells limit old new → (0 < old.cells → new.leaves ≡ old.leaves) → StoppedFor limit begin new
after_turn limit begin old new (never same more) (inl (kept, inl leaves)) halts = never (kept ∙ same) (omega (arith, more, ap (λ l. l.times) leaves))
after_turn limit begin old new (never same more) (inl (kept, inr told)) halts = never (kept ∙ same) (omega (arith, more, told.0))
after_turn limit begin old new (never same more) (inr told) halts = cells (omega (arith, told.0)) told.2 (omega (arith, more, told.1))
after_turn limit begin old new (cells some over more) sets halts =
    let leaves = halts some in
    cells (set_some sets) (omega (arith, over, ap (λ l. l.last) leaves)) (omega (arith, more, ap (λ l. l.times) leaves))
  where
    set_some : SetsCells limit old new → 0 < new.cells
    set_some (inl x) = omega (arith, some, x.0)
    set_some (inr x) = omega (arith, x.0)

-- what a run tells of the bit
pub told_cells : (limit : ℕ) (begin now : Count) → StoppedFor limit begin now → (now.cells ≡ begin.cells) ⊎ ((limit < now.leaves.last) × (begin.leaves.times < now.leaves.times))
told_cells limit begin now (never same more) = inl same
told_cells limit begin now (cells some over more) = inr (over, more)
