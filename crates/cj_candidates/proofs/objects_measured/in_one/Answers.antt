use Rattle.std.proofs.Common.{◌≡◌, ◌∙◌, ◌++◌, All, List, ap, append-nil, arith, length, map, subst, sym}
use Rattle.std.specs.Vec.Iter.{into_iter_items}
use Rattle.std.proofs.lemmas.List.{nil_from_length}
use Rattle.cj_case.specs.Tables.{Table}
use Rattle.cj_candidates.specs.declared.measured_object.MeasuredObject.{MeasuredObject}
use Rattle.cj_candidates.proofs.MeasuredLemmas.{first_of, others_of, taken_over}
use Rattle.cj_candidates.proofs.objects_measured.in_one.Goals as goal

pub loop-one-init : goal.loop-one-init
loop-one-init c =
    let gives = c.into_iter-one-iterator.ensures.into_iter_gives in
    let left = into_iter_items c.into_iter-one-iterator.result in
    record {
      shells = ap (λ xs. xs ++ map (λ one. one.shell) left) c.in_ok-shells.ensures.items;
      rows = ap (λ (t : Table _). t.rows ++ map (λ one. one.boxes.items) left) c.new-boxes.ensures;
      slots = ap (λ (t : Table _). t.slots) c.new-boxes.ensures;
      whole = subst (λ (xs : List MeasuredObject). All (λ one. length one.boxes.items ≡ c.args.slots) xs) (sym gives.0) c.requires;
      len = gives.1 ∙ c.args.objects.ok.0 ∙ sym (ap length gives.0);
    }

pub push-requires-in-loop-one : goal.push-requires-in-loop-one
push-requires-in-loop-one c =
    let i = c.loop-one.invariant in
    first_of (λ one. length one.boxes.items ≡ c.args.slots) c.in-Some.one (into_iter_items c.loop-one.one-iterator) (into_iter_items c.next.new.self) c.in-Some.ensures.steps.0 i.whole ∙ sym i.slots

pub loop-one-preserved : goal.loop-one-preserved
loop-one-preserved c =
    let i = c.loop-one.invariant in
    let steps = c.in-Some.ensures.steps in
    let one = c.in-Some.one in
    let left = into_iter_items c.loop-one.one-iterator in
    let rest = into_iter_items c.next.new.self in
    let all = into_iter_items c.into_iter-one-iterator.result in
    record {
      shells = taken_over (λ (x : MeasuredObject). x.shell) c.loop-one.shells.items c.push.new.self.items one left rest (map (λ (x : MeasuredObject). x.shell) all) c.in_ok-push.ensures.items steps.0 i.shells;
      rows = taken_over (λ (x : MeasuredObject). x.boxes.items) c.loop-one.boxes.rows c.push-in-loop-one.new.self.rows one left rest (map (λ (x : MeasuredObject). x.boxes.items) all)
          (ap (λ (t : Table _). t.rows) c.in_ok-push-2.ensures) steps.0 i.rows;
      slots = ap (λ (t : Table _). t.slots) c.in_ok-push-2.ensures ∙ i.slots;
      whole = others_of (λ one. length one.boxes.items ≡ c.args.slots) one left rest steps.0 i.whole;
      len = omega (arith, i.len, steps.1, ap length steps.0);
    }

pub returns-clause-shells : goal.returns-clause-shells
returns-clause-shells c =
    let i = c.loop-one.invariant in
    let left = into_iter_items c.loop-one.one-iterator in
    let empty = nil_from_length left (omega (arith, i.len, c.in-None.ensures.steps.0)) in
    sym (append-nil c.loop-one.shells.items) ∙ ap (λ (xs : List MeasuredObject). c.loop-one.shells.items ++ map (λ one. one.shell) xs) (sym empty) ∙ i.shells
    ∙ ap (map (λ (x : MeasuredObject). x.shell)) c.into_iter-one-iterator.ensures.into_iter_gives.0

pub returns-clause-boxes : goal.returns-clause-boxes
returns-clause-boxes c =
    let i = c.loop-one.invariant in
    let left = into_iter_items c.loop-one.one-iterator in
    let empty = nil_from_length left (omega (arith, i.len, c.in-None.ensures.steps.0)) in
    let rows = sym (append-nil c.loop-one.boxes.rows) ∙ ap (λ (xs : List MeasuredObject). c.loop-one.boxes.rows ++ map (λ one. one.boxes.items) xs) (sym empty) ∙ i.rows
    ∙ ap (map (λ (x : MeasuredObject). x.boxes.items)) c.into_iter-one-iterator.ensures.into_iter_gives.0 in
    λ j. record { rows = rows j; slots = i.slots j }
