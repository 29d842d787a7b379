-- Objects that are in one piece over some ticks.
use Rattle.std.specs.Prelude.{◌≡◌, ℕ, ◌≤◌, is_some, true}
use Rattle.cj_case.specs.PlainProblems.{PlainProblem}
use Rattle.cj_hermite.specs.ObjectsAtTicks.{number_at}

-- from first to last the object is in one piece
pub record IsWhole (case : PlainProblem) (object first last : ℕ) : Type 0 where
  pub same : (m : ℕ) → first ≤ m → m ≤ last → number_at case object m ≡ number_at case object first
  pub state : is_some (number_at case object first) ≡ true
