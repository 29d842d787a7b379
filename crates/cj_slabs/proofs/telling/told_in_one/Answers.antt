use Rattle.std.proofs.Common.{◌++◌, ◌∙◌, List, Vec, Global, ap, append-nil, arith, length, sym}
use Rattle.std.specs.Vec.Iter.{into_iter_items}
use Rattle.std.proofs.lemmas.List.{nil_from_length}
use Rattle.cj_case.specs.declared.leaf.Leaf.{Leaf}
use Rattle.cj_threads.proofs.RunLemmas.{list_taken}
use Rattle.cj_slabs.specs.Slabs.{leaves_listed}
use Rattle.cj_slabs.proofs.telling.told_in_one.Goals as goal

pub loop-slab-init : goal.loop-slab-init
loop-slab-init c =
    let gives = c.into_iter-slab-iterator.ensures.into_iter_gives in
    let left = leaves_listed (into_iter_items c.into_iter-slab-iterator.result) in
    record {
      whole = ap (λ (leaves : List Leaf). leaves ++ left) c.in_ok-told.ensures.items;
      len = gives.1 ∙ c.args.slabs.ok.0 ∙ sym (ap length gives.0);
    }

pub loop-slab-preserved : goal.loop-slab-preserved
loop-slab-preserved c =
    let i = c.loop-slab.invariant in
    let steps = c.in-Some.ensures.steps in
    record {
      whole = list_taken (λ (slab : Vec Leaf Global). slab.items) c.in-Some.slab (into_iter_items c.loop-slab.slab-iterator) (into_iter_items c.next.new.self)
          c.loop-slab.told.items c.extend_from_slice.new.self.items c.deref-in-loop-slab.result.now (leaves_listed (into_iter_items c.into_iter-slab-iterator.result))
          steps.0 c.in_ok-extend_from_slice.ensures.items c.deref-in-loop-slab.ensures.value i.whole;
      len = omega (arith, i.len, steps.1, ap length steps.0);
    }

pub returns : goal.returns
returns c =
    let i = c.loop-slab.invariant in
    let left = into_iter_items c.loop-slab.slab-iterator in
    let empty = nil_from_length left (omega (arith, i.len, c.in-None.ensures.steps.0)) in
    sym (append-nil c.loop-slab.told.items) ∙ ap (λ (slabs : List (Vec Leaf Global)). c.loop-slab.told.items ++ leaves_listed slabs) (sym empty) ∙ i.whole
    ∙ ap leaves_listed c.into_iter-slab-iterator.ensures.into_iter_gives.0
