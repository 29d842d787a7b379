use Rattle.std.proofs.Common.{◌<◌, List, All, length, subst, arith}
use Rattle.std.proofs.lemmas.List.{take_all}
use Rattle.std.proofs.lemmas.List.Elements.{All-nil}
use Rattle.cj_case.specs.declared.leaf.Leaf.{Leaf}
use Rattle.cj_case.specs.Problems.{plain_problem}
use Rattle.cj_case.specs.Leaves.{plain_leaves}
use Rattle.cj_meet.specs.Closest.{ends_in}
use Rattle.cj_meet.specs.Searches.{plain_approach, NoWorse, HasInterpolants}
use Rattle.cj_meet.proofs.ClosestLemmas.{keeps_at, nearest_begun, nearest_more, end_more, leaf_more}
use Rattle.cj_meet.proofs.approaching.nearest.Goals as goal

pub loop-leaf-init : goal.loop-leaf-init
loop-leaf-init c = record {
  end = c.near_end-best.ensures;
  nearest = nearest_begun (plain_problem c.args.problem.now) c.args.leaves.now (plain_approach c.near_end-best.result);
  interpolants = All-nil (HasInterpolants (plain_problem c.args.problem.now));
}

pub nearest_of-best-requires : goal.nearest_of-best-requires
nearest_of-best-requires c = keeps_at (plain_problem c.args.problem.now) c.args.leaves.now c.loop-leaf.leaf-index c.leaf-item.result (omega arith) c.leaf-item.is c.requires.pieces

pub loop-leaf-preserved : goal.loop-leaf-preserved
loop-leaf-preserved c =
    let case = plain_problem c.args.problem.now in
    let leaves = c.args.leaves.now in
    let at = c.loop-leaf.leaf-index in
    let leaf = c.leaf-item.result in
    let lt : at < length leaves = omega arith in
    let i = c.loop-leaf.invariant in
    record {
      end = end_more case leaves at leaf (plain_approach c.loop-leaf.best) (plain_approach c.nearest_of-best.result) lt c.leaf-item.is i.end c.nearest_of-best.ensures.reached;
      nearest = nearest_more case leaves at leaf (plain_approach c.loop-leaf.best) (plain_approach c.nearest_of-best.result) lt c.leaf-item.is i.nearest c.nearest_of-best.ensures.no_worse c.nearest_of-best.ensures.nearest;
      interpolants = leaf_more (HasInterpolants case) leaves at leaf lt c.leaf-item.is i.interpolants c.nearest_of-best.ensures.interpolants;
    }

pub returns-clause-nearest : goal.returns-clause-nearest
returns-clause-nearest c =
    let i = c.loop-leaf.invariant in
    subst (λ (ls : List Leaf). All (NoWorse (plain_approach c.loop-leaf.best)) (ends_in (plain_problem c.args.problem.now) (plain_leaves ls))) (take_all c.loop-leaf.leaf-index c.args.leaves.now (omega arith)) i.nearest

pub returns-clause-interpolants : goal.returns-clause-interpolants
returns-clause-interpolants c =
    let i = c.loop-leaf.invariant in
    subst (λ (ls : List Leaf). All (HasInterpolants (plain_problem c.args.problem.now)) (plain_leaves ls)) (take_all c.loop-leaf.leaf-index c.args.leaves.now (omega arith)) i.interpolants
