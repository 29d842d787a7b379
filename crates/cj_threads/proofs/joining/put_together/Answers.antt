use Rattle.std.proofs.Common.{◌++◌, ◌∙◌, List, ap, arith, length, subst, sym}
use Rattle.std.specs.Prelude.{All, flat_map}
use Rattle.std.specs.Global.{Vec}
use Rattle.std.specs.List.Sorted.{IsPermutation}
use Rattle.std.specs.Vec.Iter.{into_iter_items}
use Rattle.std.proofs.lemmas.Bool.{and_parts}
use Rattle.std.proofs.lemmas.List.{nil_from_length}
use Rattle.std.proofs.lemmas.List.Sorted.{IsPermutation-trans}
use Rattle.cj_case.specs.PairOrder.{AreInOrderBy}
use Rattle.cj_threads.proofs.RunLemmas.{all_taken, each_taken, list_taken}
use Rattle.cj_threads.proofs.joining.put_together.Goals as goal

pub loop-list-init : goal.loop-list-init
loop-list-init g c =
    let given = c.into_iter-list-iterator.ensures.into_iter_gives in
    let ordered = λ (list : Vec g.row.T.Denot). AreInOrderBy g.T.Placed.place_of list.items in
    let left = flat_map (λ (list : Vec g.row.T.Denot). list.items) (into_iter_items c.into_iter-list-iterator.result) in
    let none = c.in_ok-all.ensures.items in
    record {
      elements = ap (λ (xs : List g.row.T.Denot). xs ++ left) none;
      left = subst (All ordered) (sym given.0) c.requires.ordered;
      ordered = λ t. subst (AreInOrderBy g.T.Placed.place_of) (sym none) (λ i j d lt within. absurd (omega (arith, within)));
      len = given.1 ∙ c.args.lists.ok.0 ∙ sym (ap length given.0);
    }

pub loop-list-preserved : goal.loop-list-preserved
loop-list-preserved g c =
    let place = g.T.Placed.place_of in
    let i = c.loop-list.invariant in
    let steps = c.in-Some.ensures.steps in
    let old = into_iter_items c.loop-list.list-iterator in
    let rest = into_iter_items c.next.new.self in
    let list = c.in-Some.list in
    let more = c.deref-in-loop-list-2.result.now in
    let each = each_taken (λ (l : Vec g.row.T.Denot). AreInOrderBy place l.items) list old rest steps.0 i.left in
    record {
      elements = list_taken (λ (l : Vec g.row.T.Denot). l.items) list old rest c.loop-list.all.items c.extend_from_slice.new.self.items more
          (flat_map (λ (l : Vec g.row.T.Denot). l.items) (into_iter_items c.into_iter-list-iterator.result))
          steps.0 c.in_ok-extend_from_slice.ensures.items c.deref-in-loop-list-2.ensures.value i.elements;
      left = each.1;
      ordered = λ t.
          let tests = and_parts c.loop-list.in_order c.goes_on-in_order.result t in
          let front = subst (AreInOrderBy place) (sym c.deref.ensures.value) (i.ordered tests.0) in
          let back = subst (AreInOrderBy place) (sym c.deref-in-loop-list.ensures.value) each.0 in
          rw c.in_ok-extend_from_slice.ensures.items
          (subst (λ xs. AreInOrderBy place (c.loop-list.all.items ++ xs)) (c.deref-in-loop-list.ensures.value ∙ sym c.deref-in-loop-list-2.ensures.value)
          (subst (λ xs. AreInOrderBy place (xs ++ c.deref-in-loop-list.result.now)) c.deref.ensures.value (c.goes_on-in_order.ensures tests.1 front back)));
      len = omega (arith, i.len, steps.1, ap length steps.0);
    }

pub returns-then-in_order-clause-elements : goal.returns-then-in_order-clause-elements
returns-then-in_order-clause-elements g c =
    let i = c.loop-list.invariant in
    let left = into_iter_items c.loop-list.list-iterator in
    let empty = nil_from_length left (omega (arith, i.len, c.in-None.ensures.steps.0)) in
    all_taken (λ (l : Vec g.row.T.Denot). l.items) left c.loop-list.all.items (flat_map (λ (l : Vec g.row.T.Denot). l.items) c.args.lists.items) empty
    (i.elements ∙ ap (flat_map (λ (l : Vec g.row.T.Denot). l.items)) c.into_iter-list-iterator.ensures.into_iter_gives.0)

pub returns-then-in_order-clause-ordered : goal.returns-then-in_order-clause-ordered
returns-then-in_order-clause-ordered g c = c.loop-list.invariant.ordered c.if-in_order.true

pub returns-clause-elements : goal.returns-clause-elements
returns-clause-elements g c =
    let i = c.loop-list.invariant in
    let left = into_iter_items c.loop-list.list-iterator in
    let all = flat_map (λ (l : Vec g.row.T.Denot). l.items) c.args.lists.items in
    let empty = nil_from_length left (omega (arith, i.len, c.in-None.ensures.steps.0)) in
    IsPermutation-trans all c.loop-list.all.items c.put_in_order.new.all.items
    (all_taken (λ (l : Vec g.row.T.Denot). l.items) left c.loop-list.all.items all empty
    (i.elements ∙ ap (flat_map (λ (l : Vec g.row.T.Denot). l.items)) c.into_iter-list-iterator.ensures.into_iter_gives.0))
    c.in_ok-put_in_order.ensures.elements

pub returns-clause-ordered : goal.returns-clause-ordered
returns-clause-ordered g c = c.in_ok-put_in_order.ensures.ordered
