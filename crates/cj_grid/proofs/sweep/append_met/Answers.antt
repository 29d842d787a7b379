use Rattle.std.proofs.Common.{◌≡◌, get_or, sym, subst, ◌∙◌, arith, below_more}
use Rattle.std.proofs.lemmas.List.{get_or_default}
use Rattle.cj_case.specs.Pairs.{AreBoth}
use Rattle.cj_grid.specs.declared.reach.Reach.{Reach}
use Rattle.cj_grid.specs.Among.{AreFound}
use Rattle.cj_grid.proofs.sweep.append_met.Goals as goal

pub loop-other-init : goal.loop-other-init
loop-other-init g c = record {
  touching = λ all. all;
  kept = λ a b has. has;
  found = λ k lt. absurd (omega arith);
  no_fewer = omega arith;
  steps = omega arith;
}

pub loop-other-preserved : goal.loop-other-preserved
loop-other-preserved g c =
    let i = c.loop-other.invariant in
    let at = c.loop-other.other-index in
    let told = c.in_ok-append_pair.ensures in
    let objects = c.args.objects.now in
    record {
      touching = λ all. told.touching (i.touching all);
      kept = λ a b has. told.kept a b (i.kept a b has);
      found = below_more (λ k. (other : Reach) → get_or c.args.others.now k other ≡ other → AreFound objects (AreBoth c.args.one other.object) c.append_pair.new.pairs.items) at
          (λ k lt other is a b up both touch. told.kept a b (i.found k lt other is a b up both touch))
          (λ other is a b up both touch.
          told.found a b up (subst (λ (r : Reach). AreBoth c.args.one r.object a b) (sym (get_or_default c.args.others.now at _ other (omega arith) ∙ is)) both) touch);
      no_fewer = let so_far = i.no_fewer in let now = told.no_fewer in omega arith;
      steps = let so_far = i.steps in let now = told.one in omega arith;
    }

pub returns-clause-found : goal.returns-clause-found
returns-clause-found g c other has a b up both touch =
    let lt = has.1 in
    c.loop-other.invariant.found has.0 (omega arith) other has.2 a b up both touch
