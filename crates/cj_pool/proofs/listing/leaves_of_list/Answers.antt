use Rattle.std.proofs.Common.{List, All, refl, sym, subst, arith}
use Rattle.cj_case.specs.Problems.{plain_problem}
use Rattle.cj_case.specs.declared.cell.Cell.{Cell}
use Rattle.cj_pool.specs.RootLists.{IsKept}
use Rattle.cj_pool.proofs.listing.leaves_of_list.Goals as goal

pub leaves_by_hands-requires-clause-problem : goal.leaves_by_hands-requires-clause-problem
leaves_by_hands-requires-clause-problem g c _ _ = refl

pub leaves_by_hands-requires-clause-roots : goal.leaves_by_hands-requires-clause-roots
leaves_by_hands-requires-clause-roots g c _ _ = refl

pub leaves_by_hands-requires-clause-workers : goal.leaves_by_hands-requires-clause-workers
leaves_by_hands-requires-clause-workers g c _ _ = refl

pub leaves_by_hands-requires-clause-are_roots : goal.leaves_by_hands-requires-clause-are_roots
leaves_by_hands-requires-clause-are_roots g c _ _ = c.requires.roots

pub leaves_by_hands-requires-clause-some : goal.leaves_by_hands-requires-clause-some
leaves_by_hands-requires-clause-some g c _ _ = c.requires.some

pub leaves_by_hands-requires-clause-few_workers : goal.leaves_by_hands-requires-clause-few_workers
leaves_by_hands-requires-clause-few_workers g c _ _ = c.requires.few_workers

pub leaves_by_hands-requires-clause-few_leaves : goal.leaves_by_hands-requires-clause-few_leaves
leaves_by_hands-requires-clause-few_leaves g c _ _ = c.requires.limit

pub leaves_by_hands-requires-clause-few_roots : goal.leaves_by_hands-requires-clause-few_roots
leaves_by_hands-requires-clause-few_roots g c _ _ = omega (arith, c.requires.few, c.args.roots.ok.0)

pub returns : goal.returns
returns g c = c.leaves_by_hands.ensures

pub returns-then-workers-eq1 : goal.returns-then-workers-eq1
returns-then-workers-eq1 g c = rw (sym c.deref.ensures.value) (record {
  value = c.refine_all.ensures.value;
  within = c.refine_all.ensures.within;
  too_many = c.refine_all.ensures.too_many;
  leaves = c.refine_all.ensures.leaves;
})

pub refine_all-requires : goal.refine_all-requires
refine_all-requires g c = subst (λ (cells : List Cell). All (IsKept (plain_problem c.args.problem.now)) cells) (sym c.deref.ensures.value) c.requires.roots.keep
