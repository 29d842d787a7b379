use Rattle.std.proofs.Common.{◌<◌, ℕ, length, subst, ◌∙◌, arith, below_more}
use Rattle.std.specs.Prelude.{slice_index}
use Rattle.std.proofs.lemmas.List.{get_or_default}
use Rattle.std.proofs.lemmas.List.Sorted.{All-permutation, Contains-permutation, length_permutation}
use Rattle.cj_case.specs.Boxes.{plain_box}
use Rattle.cj_grid.specs.Sweeps.{HasReach, reach_of, side}
use Rattle.cj_grid.proofs.SweepLemmas.{sorted_in_order}
use Rattle.cj_grid.proofs.reaches.enter.Goals as goal

pub loop-object-preserved : goal.loop-object-preserved
loop-object-preserved c =
    let i = c.loop-object.invariant in
    let at = c.loop-object.object-index in
    let told = c.in_ok-enter_object.ensures in
    let objects = c.args.objects.now in
    let object_at : ℕ → ℕ = λ k. slice_index c.args.some.now k in
    record {
      exist = told.exist i.exist;
      entered = below_more (λ k. HasReach objects c.args.axis c.args.longest c.enter_object.new.reaches.items (object_at k)) at
          (λ k lt area is. told.kept (reach_of objects.thr (slice_index objects.sizes.now (object_at k)) c.args.longest (object_at k) (side c.args.axis (plain_box area))) (i.entered k lt area is))
          told.entered;
      few = let so_far = i.few in let more = told.few in omega arith;
    }

pub returns-clause-exist : goal.returns-clause-exist
returns-clause-exist c =
    All-permutation (λ reach. reach.object < length c.args.objects.now.boxes.now) c.loop-object.reaches.items c.sort_unstable.new.self.items c.sort_unstable.ensures.permutation
    c.loop-object.invariant.exist

pub returns-clause-entered : goal.returns-clause-entered
returns-clause-entered c = λ object has area is.
    let objects = c.args.objects.now in
    let at = get_or_default c.args.some.now has.0 0 object has.1 ∙ has.2 in
    Contains-permutation c.loop-object.reaches.items c.sort_unstable.new.self.items (reach_of objects.thr (slice_index objects.sizes.now object) c.args.longest object (side c.args.axis (plain_box area)))
    c.sort_unstable.ensures.permutation
    (subst (λ (k : ℕ). HasReach objects c.args.axis c.args.longest c.loop-object.reaches.items k) at (c.loop-object.invariant.entered has.0 (let lt = has.1 in omega arith)) area is)

pub returns-clause-few : goal.returns-clause-few
returns-clause-few c =
    let count = length_permutation c.loop-object.reaches.items c.sort_unstable.new.self.items c.sort_unstable.ensures.permutation in
    let few = c.loop-object.invariant.few in
    omega arith

pub returns-clause-order : goal.returns-clause-order
returns-clause-order c = sorted_in_order c.sort_unstable.new.self.items c.sort_unstable.ensures.sorted
