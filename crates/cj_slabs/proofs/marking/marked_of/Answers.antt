use Rattle.std.proofs.Common.{◌∙◌, List, false, true, append-nil, filter, subst, sym, ap}
use Rattle.std.specs.List.Sorted.{IsPermutation}
use Rattle.std.proofs.lemmas.List.{take_all}
use Rattle.cj_case.specs.declared.leaf.Leaf.{Leaf}
use Rattle.cj_slabs.specs.Marks.{is_marked}
use Rattle.cj_slabs.proofs.MarkLemmas.{marked_more}
use Rattle.cj_slabs.proofs.marking.marked_of.Goals as goal
use Rattle.cj_slabs.proofs.marking.marked_of.Goals.{then-not-is_far+in_ok-push, else-not-is_far}

pub loop-leaf-preserved : goal.loop-leaf-preserved
loop-leaf-preserved c =
    let so_far = c.loop-leaf.invariant in
    let old = c.loop-leaf.marks.items in
    elim c.if-not-is_far.branch [
      | then-not-is_far+in_ok-push w ↦
          marked_more c.args.slab.now c.loop-leaf.leaf-index c.leaf-item.result false old c.if-not-is_far.marks.items c.loop-leaf-test.true c.leaf-item.is
          (sym c.is_far.ensures ∙ w.if-not-is_far.true) so_far (ap (λ v. v.items) w.marks-is ∙ w.in_ok-push.ensures.items)
      | else-not-is_far w ↦
          marked_more c.args.slab.now c.loop-leaf.leaf-index c.leaf-item.result true old c.if-not-is_far.marks.items c.loop-leaf-test.true c.leaf-item.is
          (sym c.is_far.ensures ∙ w.if-not-is_far.false) so_far (ap (λ v. v.items) w.marks-is ∙ sym (append-nil old))
    ]

pub returns : goal.returns
returns c =
    let all = c.loop-leaf.invariant ∙ ap (filter is_marked) (take_all c.loop-leaf.leaf-index c.args.slab.now c.loop-leaf-test.false) in
    subst (λ (ls : List Leaf). IsPermutation ls c.sort_by_key.new.self.items) all c.in_ok-sort_by_key.ensures.permutation
