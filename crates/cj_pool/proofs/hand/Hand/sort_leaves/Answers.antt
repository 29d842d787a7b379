use Rattle.std.proofs.Common.{refl}
use Rattle.cj_case.specs.Problems.{plain_problem}
use Rattle.cj_pool.proofs.AccountLemmas.{sorted_accounts}
use Rattle.cj_pool.proofs.hand.Hand.sort_leaves.Goals as goal

pub invariant_of-self : goal.invariant_of-self
invariant_of-self g c =
    let inv = c.self.invariant in (
      inv.0,
      inv.1,
      inv.2,
      inv.3,
      inv.4,
      sorted_accounts (plain_problem g.K.Run.problem) g.K.Run.roots g.K.Run.workers _ _ inv.5 (record { number = refl; problem = refl; opening = refl }) refl
          c.sort.ensures.permutation refl refl refl refl refl,
    )
