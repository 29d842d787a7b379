use Rattle.std.proofs.Common.{◌≡◌, vec_len, All}
use Rattle.cj_ledger.specs.Shares.{IsOf}
use Rattle.cj_halving_tests.proofs.shares.followed.Given as goal

abbrev pub invariant-loop-at : goal.invariant-loop-at
invariant-loop-at g l = All (IsOf l.ledger) l.shares.items × (vec_len l.shares ≡ l.ledger.opening.shares)
