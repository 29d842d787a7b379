use Rattle.cj_ledger.specs.Shares.{IsOf}
use Rattle.cj_halving_tests.proofs.shares.work.Given as goal

abbrev pub invariant-loop : goal.invariant-loop
invariant-loop l = IsOf l.ledger l.share
