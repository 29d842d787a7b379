-- The balance of one deque.
use Rattle.std.specs.Prelude.{◌≡◌, ℕ, ◌+◌, ◌-◌, ◌<◌, ◌≤◌, List, [], ◌++◌}
use mathlib.Core.Option.{some}
use lib.ListN.{get_elem?}
use Rattle.cj_case.specs.declared.cell.Cell.{Cell}
use Rattle.cj_pool.specs.declared.account.Account.{Account}
use Rattle.cj_pool.specs.Weights.{weigh}

abbrev pub account : ℕ → ℕ → List Cell → List Cell → List Cell → Account
account parts all opening pushed taken = record { parts = parts; all = all; opening = opening; pushed = pushed; taken = taken }

-- no part, and nothing done
abbrev pub nobody : Account
nobody = account 0 0 [] [] []

-- the worker's, at the start
abbrev pub whole : ℕ → Account
whole n = account n n [] [] []

-- whose account this is owns the deque: it has a part, and knows how many there are
abbrev pub Owns : Account → Type 0
Owns v = (0 < v.parts) × (0 < v.all)

-- who has no part has done nothing; the owner knows how many parts there are; and who does not own the deque has pushed nothing
pub record Fits (n : ℕ) (v : Account) : Type 0 where
  pub spent : v.parts ≡ 0 → v ≡ nobody
  pub owner : 0 < v.all → v.all ≡ n
  pub guest : v.all ≡ 0 → (v.opening ≡ []) × (v.pushed ≡ [])

-- However cells are weighed, the opening roots and the later pushes weigh what the taken cells and those in the queue weigh. The deque has
-- one owner.
pub record Balanced (n : ℕ) (items : List Cell) (views : List Account) : Type 0 where
  pub parts : weigh (λ v. v.parts) views ≡ n
  pub owner : weigh (λ v. v.all) views ≡ n
  pub weights : (w : Cell → ℕ) → weigh (λ v. weigh w v.opening) views + weigh (λ v. weigh w v.pushed) views ≡ weigh (λ v. weigh w v.taken) views + weigh w items
  pub idle : (i : ℕ) (v : Account) → get_elem? views i ≡ some v → Fits n v

abbrev pub with_opening : Account → List Cell → Account
with_opening v cells = record v { opening = v.opening ++ cells }

abbrev pub with_pushed : Account → List Cell → Account
with_pushed v cells = record v { pushed = v.pushed ++ cells }

abbrev pub with_taken : Account → List Cell → Account
with_taken v cells = record v { taken = v.taken ++ cells }

-- the account of a worker that gave a part away
abbrev pub less_a_part : Account → Account
less_a_part v = record v { parts = v.parts - 1 }

-- the account of a new pass, which does not own the deque
abbrev pub new_pass : Account → Account
new_pass v = account 1 0 [] [] []

-- two accounts together
abbrev pub both : Account → Account → Account
both v w = account (v.parts + w.parts) v.all (v.opening ++ w.opening) (v.pushed ++ w.pushed) (v.taken ++ w.taken)

-- what the one pass with all parts knows of the cells in the queue
abbrev pub Settled : Account → List Cell → Type 0
Settled v items = v.parts ≡ v.all → (w : Cell → ℕ) → weigh w v.opening + weigh w v.pushed ≡ weigh w v.taken + weigh w items

-- what the owner knows of them: it opened or pushed them, and has not taken them
abbrev pub AreLeft : Account → List Cell → Type 0
AreLeft v items = (w : Cell → ℕ) → weigh w v.taken + weigh w items ≤ weigh w v.opening + weigh w v.pushed
