use Rattle.std.proofs.Common.{◌+◌, ◌∷◌, ℕ, List, [], get_or, length, take, ap, sym, subst, arith}
use Rattle.std.proofs.lemmas.List.{take_all, take_more}
use Rattle.std.proofs.lemmas.Result.{err_from_is_err_and}
use Rattle.cj_cells.proofs.ListingLemmas.{error_is}
use Rattle.cj_case.specs.Problems.{plain_problem}
use Rattle.cj_bezier.specs.RootLeaves.{leaves_of_roots}
use Rattle.cj_slabs.specs.declared.so_far.SoFar.TheVariants.{Given}
use Rattle.cj_slabs.specs.Slabs.{AreSlabsOf, AreSoFar, leaves_so_far, roots_at}
use Rattle.cj_slabs.proofs.JoinLemmas.{leaves_taken}
use Rattle.cj_slabs.proofs.sifting.sift_alone.Goals as goal

pub loop-slot-init : goal.loop-slot-init
loop-slot-init g c = record {
  found = c.empty-so_far.ensures.found (plain_problem c.args.problem.now);
  few = omega (arith, c.empty-so_far.ensures.leaves);
}

pub returns-in_err-next : goal.returns-in_err-next
returns-in_err-next g c =
    let p = err_from_is_err_and c.from_residual.result c.from_residual.ensures.1 in
    rw (p.1, p.2) (record { found = tt; within = tt; told_within = tt; too_many = λ is. absurd cc; too_many_told = λ is. absurd cc; few_leaves = λ is. absurd cc })

pub loop-slot-preserved : goal.loop-slot-preserved
loop-slot-preserved g c =
    let case = plain_problem c.args.problem.now in
    let slots = c.args.slots.now in
    let i = c.loop-slot.slot-index in
    let next = take_more slots i 0 c.loop-slot-test.true in
    record {
      found = subst (λ (ks : List ℕ). AreSoFar c.args.limits case ks c.in_ok-so_far.so_far) (sym next)
          (c.in_ok-so_far.ensures.found case (take i slots) (get_or slots i 0 ∷ []) c.loop-slot.invariant.found c.in_ok-next.ensures.outcome);
      few = c.in_ok-so_far.ensures.within;
    }

pub returns-in_err-so_far : goal.returns-in_err-so_far
returns-in_err-so_far g c =
    let p = err_from_is_err_and c.from_residual-in_err-so_far.result c.from_residual-in_err-so_far.ensures.1 in
    let case = plain_problem c.args.problem.now in
    let slots = c.args.slots.now in
    let i = c.loop-slot.slot-index in
    let next = ap (λ (ks : List ℕ). length (leaves_of_roots case (roots_at case ks))) (take_more slots i 0 c.loop-slot-test.true) in
    let says = c.in_err-so_far.ensures in
    rw (p.1, p.2) (record {
      found = tt;
      within = tt;
      told_within = tt;
      too_many = λ is. let many = says.too_many case (take i slots) (get_or slots i 0 ∷ []) c.loop-slot.invariant.found c.in_ok-next.ensures.outcome (error_is _ _ is) in
          omega (arith, many, next, leaves_taken case slots (i + 1));
      too_many_told = λ is. absurd (says.none_told (error_is _ _ is));
      few_leaves = λ is. absurd (says.none_told (error_is _ _ is));
    })

pub returns-in-Kept : goal.returns-in-Kept
returns-in-Kept g c =
    let case = plain_problem c.args.problem.now in
    let slots = c.args.slots.now in
    let i = c.loop-slot.invariant in
    let all = take_all c.loop-slot.slot-index slots c.loop-slot-test.false in
    let kept = subst (AreSoFar c.args.limits case (take c.loop-slot.slot-index slots)) c.in-Kept.is i.found in
    record {
      found = subst (λ (ks : List ℕ). AreSlabsOf case ks c.in-Kept.found) all kept.0;
      within = omega (arith, i.few, ap leaves_so_far c.in-Kept.is);
      told_within = omega (arith, kept.1);
      too_many = λ is. absurd cc;
      too_many_told = λ is. absurd cc;
      few_leaves = λ is. absurd cc;
    }

pub returns-in-Given : goal.returns-in-Given
returns-in-Given g c =
    let case = plain_problem c.args.problem.now in
    let slots = c.args.slots.now in
    let i = c.loop-slot.invariant in
    let all = take_all c.loop-slot.slot-index slots c.loop-slot-test.false in
    let given = subst (λ (ks : List ℕ). AreSoFar c.args.limits case ks (Given c.in-Given.leaves)) all (subst (AreSoFar c.args.limits case (take c.loop-slot.slot-index slots)) c.in-Given.is i.found) in
    record {
      found = tt;
      within = tt;
      told_within = tt;
      too_many = λ is. absurd cc;
      too_many_told = λ is. given.1;
      few_leaves = λ is. omega (arith, given.0, i.few, ap leaves_so_far c.in-Given.is);
    }
