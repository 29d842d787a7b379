use Rattle.std.proofs.Common.{◌≡◌, ◌⊎◌, List, All, Any, sym, subst}
use Rattle.cj_case.specs.Problems.{plain_problem}
use Rattle.cj_hermite.specs.Ready.{curve_ready}
use Rattle.cj_case.specs.Leaves.{plain_leaf}
use Rattle.cj_meet.specs.Closest.{PlainApproach}
use Rattle.cj_meet.specs.Searches.{plain_approach, NoWorse}
use Rattle.cj_meet.proofs.ClosestLemmas.{ends_are}
use Rattle.cj_meet.proofs.approaching.nearest_of.Goals as goal

pub returns-clause-nearest : goal.returns-clause-nearest
returns-clause-nearest c =
    let same = ends_are (plain_problem c.args.problem.now) (plain_leaf c.args.leaf.now) (curve_ready c.prepare.result.0) (curve_ready c.prepare.result.1) c.prepare.ensures.first c.prepare.ensures.second in
    subst (λ (ps : List PlainApproach). All (NoWorse (plain_approach c.search.result)) ps) (sym same) c.search.ensures.nearest

pub returns-clause-reached : goal.returns-clause-reached
returns-clause-reached c =
    let same = ends_are (plain_problem c.args.problem.now) (plain_leaf c.args.leaf.now) (curve_ready c.prepare.result.0) (curve_ready c.prepare.result.1) c.prepare.ensures.first c.prepare.ensures.second in
    subst (λ (ps : List PlainApproach). (plain_approach c.search.result ≡ plain_approach c.args.given) ⊎ Any (λ p. p ≡ plain_approach c.search.result) ps) (sym same) c.search.ensures.reached

pub returns-clause-interpolants : goal.returns-clause-interpolants
returns-clause-interpolants c = record {
  c = curve_ready c.prepare.result.0;
  d = curve_ready c.prepare.result.1;
  first = c.prepare.ensures.first;
  second = c.prepare.ensures.second;
  some = c.args.leaf.now.cell.some;
  first_over = c.prepare.ensures.first_over;
  second_over = c.prepare.ensures.second_over;
}
