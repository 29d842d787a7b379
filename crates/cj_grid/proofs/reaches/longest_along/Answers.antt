use Rattle.std.proofs.Common.{ℕ, ◌+◌, ◌^◌, subst, ◌∙◌, arith, below_more}
use Rattle.std.specs.Prelude.{pos, ◌+ℤ◌, ◌-ℤ◌, slice_index}
use Rattle.std.proofs.lemmas.List.{get_or_default}
use Rattle.cj_case.specs.Boxes.{plain_box}
use Rattle.cj_grid.specs.Sweeps.{IsNoLonger, side}
use Rattle.cj_grid.proofs.SweepLemmas.{greater_few, greater_first, greater_second, longer_still}
use Rattle.cj_grid.proofs.reaches.longest_along.Goals as goal

pub loop-object-preserved : goal.loop-object-preserved
loop-object-preserved c =
    let i = c.loop-object.invariant in
    let at = c.loop-object.object-index in
    let objects = c.args.objects.now in
    let sizes = objects.sizes.now in
    let own = greater_first c.length_along.result c.loop-object.longest c.max-longest.result c.max-longest.ensures in
    let before = greater_second c.length_along.result c.loop-object.longest c.max-longest.result c.max-longest.ensures in
    let object_at : ℕ → ℕ = λ k. slice_index c.args.some.now k in
    record {
      value = below_more (λ k. IsNoLonger objects c.args.axis c.max-longest.result (object_at k)) at
          (λ k lt area is. longer_still ((side c.args.axis (plain_box area)).most +ℤ pos (slice_index sizes (object_at k) + objects.thr)) ((side c.args.axis (plain_box area)).least -ℤ pos (slice_index sizes (object_at k)))
          c.loop-object.longest c.max-longest.result (i.value k lt area is) before)
          (λ area is. longer_still ((side c.args.axis (plain_box area)).most +ℤ pos (slice_index sizes (object_at at) + objects.thr)) ((side c.args.axis (plain_box area)).least -ℤ pos (slice_index sizes (object_at at)))
          c.length_along.result c.max-longest.result (c.length_along.ensures.value area is) own);
      few = greater_few c.length_along.result c.loop-object.longest c.max-longest.result (10 ^ 20) c.max-longest.ensures c.length_along.ensures.few i.few;
    }

pub returns-clause-value : goal.returns-clause-value
returns-clause-value c = λ object has.
    let at = get_or_default c.args.some.now has.0 0 object has.1 ∙ has.2 in
    subst (λ (k : ℕ). IsNoLonger c.args.objects.now c.args.axis c.loop-object.longest k) at (c.loop-object.invariant.value has.0 (let lt = has.1 in omega arith))
