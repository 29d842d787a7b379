use Rattle.std.proofs.Common.{◌∙◌, ◌++◌, List, Vec, Global, ap, append-nil, arith, length, sym}
use Rattle.std.specs.List.{flat_map}
use Rattle.std.specs.Vec.Iter.{into_iter_items}
use Rattle.std.proofs.lemmas.List.{nil_from_length}
use Rattle.cj_case.specs.declared.cell.Cell.{Cell}
use Rattle.cj_candidates.specs.declared.slot_run.ThreadRun.{ThreadRun}
use Rattle.cj_candidates.specs.SlotRuns.{roots_listed}
use Rattle.cj_candidates.proofs.SlotRunLemmas.{list_more}
use Rattle.cj_candidates.proofs.slots_searched.roots_in.Goals as goal

pub loop-run-init : goal.loop-run-init
loop-run-init c =
    let gives = c.into_iter-run-iterator.ensures.into_iter_gives in
    let left = roots_listed (into_iter_items c.into_iter-run-iterator.result) in
    record {
      whole = ap (λ (lists : List (Vec Cell Global)). flat_map (λ list. list.items) lists ++ left) c.in_ok-lists.ensures.items;
      len = gives.1 ∙ c.args.runs.ok.0 ∙ sym (ap length gives.0);
    }

pub loop-run-preserved : goal.loop-run-preserved
loop-run-preserved c =
    let i = c.loop-run.invariant in
    let steps = c.in-Some.ensures.steps in
    record {
      whole = list_more c.loop-run.lists.items c.push.new.self.items c.in-Some.run' (into_iter_items c.loop-run.run-iterator) (into_iter_items c.next.new.self)
          (roots_listed (into_iter_items c.into_iter-run-iterator.result)) c.in_ok-push.ensures.items steps.0 i.whole;
      len = omega (arith, i.len, steps.1, ap length steps.0);
    }

pub returns : goal.returns
returns c =
    let i = c.loop-run.invariant in
    let left = into_iter_items c.loop-run.run-iterator in
    let made = flat_map (λ (list : Vec Cell Global). list.items) c.loop-run.lists.items in
    let empty = nil_from_length left (omega (arith, i.len, c.in-None.ensures.steps.0)) in
    sym (append-nil made) ∙ ap (λ (rs : List ThreadRun). made ++ roots_listed rs) (sym empty) ∙ i.whole
    ∙ ap roots_listed c.into_iter-run-iterator.ensures.into_iter_gives.0
