-- Counts of faults, which fault an error is, and what is not told.
use Rattle.std.proofs.Common.{◌≡◌, ℕ, ◌+◌, ◌-◌, ◌^◌, Ok, Err, Some, None, arith}
use Rattle.std.specs.Prelude.{min, IsErrOf}
use Rattle.cj_io.specs.Faults.{Rose}
use Rattle.cj_io.specs.declared.shelf.PutError.{PutError}
use Rattle.cj_io.specs.declared.shelf.PutError.TheVariants.{Memory, Failed}

-- a count with one more has risen
pub rises : (before now : ℕ) → now ≡ min (before + 1) (2 ^ 64 - 1) → Rose before now
rises before now e = omega arith

-- a put that ended well has no error
pub no_error : {e : PutError} → IsErrOf {T = Unit {0}} (Ok tt) e → ⊥
no_error e = cc

-- a fault is no want of memory, and the other way
pub no_want : IsErrOf {T = Unit {0}} (Err Failed) Memory → ⊥
no_want e = cc

pub no_fault : IsErrOf {T = Unit {0}} (Err Memory) Failed → ⊥
no_fault e = cc

pub same_error : {T E : Type 0} {a b : E} → IsErrOf {T = T} (Err a) b → a ≡ b
same_error e = cc

-- what is not told is nothing in particular
pub not_told : {A : Type 0} {x : A} → None ≡ Some x → ⊥
not_told e = cc
