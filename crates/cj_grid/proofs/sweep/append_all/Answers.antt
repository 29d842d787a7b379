use Rattle.std.proofs.Common.{◌≡◌, ℕ, List, ◌+◌, ◌*◌, ◌≤◌, get_or, length, subst, ap, arith, below_more}
use Rattle.cj_case.specs.Pairs.{AreBoth}
use Rattle.cj_grid.specs.declared.reach.Reach.{Reach}
use Rattle.cj_grid.specs.Among.{AreFound}
use Rattle.cj_grid.specs.Sweeps.{IsMetBy}
use Rattle.cj_grid.proofs.SweepLemmas.{part_of_all, row_more, same_entry}
use Rattle.cj_grid.proofs.sweep.append_all.Goals as goal

pub loop-own-init : goal.loop-own-init
loop-own-init g c = record {
  touching = λ all. all;
  kept = λ a b has. has;
  found = λ k lt. absurd (omega arith);
  no_fewer = omega arith;
  steps = omega arith;
}

pub loop-own-preserved : goal.loop-own-preserved
loop-own-preserved g c =
    let i = c.loop-own.invariant in
    let at = c.loop-own.own-index in
    let told = c.in_ok-append_own.ensures in
    let objects = c.args.objects.now in
    let reaches = c.args.reaches.now in
    let wide = reaches.wide.items in
    record {
      touching = λ all. told.touching (i.touching all);
      kept = λ a b has. told.kept a b (i.kept a b has);
      found = below_more (λ k. (own other : Reach) → get_or wide k own ≡ own → IsMetBy reaches own other → AreFound objects (AreBoth own.object other.object) c.append_own.new.pairs.items) at
          (λ k lt own other is met a b up both touch. told.kept a b (i.found k lt own other is met a b up both touch))
          (λ own other is met a b up both touch.
          let same = same_entry c.deref-own-items.result.now wide at _ own c.deref-own-items.ensures.value c.loop-own-test.true is in
          told.found other (subst (λ (r : Reach). IsMetBy reaches r other) same met) a b up (subst (λ (r : Reach). AreBoth r.object other.object a b) same both) touch);
      no_fewer = let so_far = i.no_fewer in let now = told.no_fewer in omega arith;
      steps = row_more c.args.steps.now c.loop-own.steps c.append_own.new.steps (length wide + length reaches.others.items) at (at + 1) i.steps told.steps (omega arith);
    }

pub returns-clause-found : goal.returns-clause-found
returns-clause-found g c a b up met touch =
    let count = ap (λ (rs : List Reach). length rs) c.deref-own-items.ensures.value in
    let lt = met.listed.1 in
    c.loop-own.invariant.found met.listed.0 (omega arith) met.own met.other met.listed.2 met.met a b up met.both touch

pub returns-clause-steps : goal.returns-clause-steps
returns-clause-steps g c =
    let count = ap (λ (rs : List Reach). length rs) c.deref-own-items.ensures.value in
    let end : c.loop-own.own-index ≡ length c.args.reaches.now.wide.items = omega arith in
    subst (λ (j : ℕ). c.loop-own.steps ≤ c.args.steps.now + j * (length c.args.reaches.now.wide.items + length c.args.reaches.now.others.items)) end c.loop-own.invariant.steps

pub returns-in_err-append_own-clause-steps : goal.returns-in_err-append_own-clause-steps
returns-in_err-append_own-clause-steps g c =
    let count = ap (λ (rs : List Reach). length rs) c.deref-own-items.ensures.value in
    part_of_all c.args.steps.now c.loop-own.steps c.append_own.new.steps (length c.args.reaches.now.wide.items + length c.args.reaches.now.others.items) c.loop-own.own-index (length c.args.reaches.now.wide.items)
    c.loop-own.invariant.steps c.append_own.ensures.steps (omega arith)
