use Rattle.std.proofs.Common.{subst, rules}
use Rattle.cj_case.specs.Problems.{plain_problem}
use Rattle.cj_pool.specs.Hands.{HandSeen, Accounts}
use Rattle.cj_pool.specs.Weights.{has}
use Rattle.cj_pool.proofs.NarrowLemmas.{narrow_length}
use Rattle.cj_pool.proofs.SharedLemmas.{has_shared}
use Rattle.cj_pool.proofs.hand.Hand.account.Goals as goal

pub returns : goal.returns
returns g c =
    let case = plain_problem g.K.Run.problem in
    let h = c.args.self.now in
    let a = subst (λ (x : HandSeen). Accounts case g.K.Run.roots g.K.Run.workers x) c.self.view_is c.self.invariant.5 in
    record {
      problem = search rules;
      balanced = λ x y m. a.balanced (has x y m) (has_shared case x y m);
      tree = a.tree;
      leaves = a.leaves;
      closes = a.closes;
      splits = a.splits;
      pushes = a.pushes;
      few = narrow_length 26 h.kept a.narrow;
    }
