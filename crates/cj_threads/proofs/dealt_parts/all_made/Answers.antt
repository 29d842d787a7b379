use Rattle.std.proofs.Common.{◌∙◌, ◌++◌, Ok, ap, append-nil, arith, length, map, sym}
use Rattle.std.specs.Vec.Iter.{into_iter_items}
use Rattle.std.proofs.lemmas.List.{nil_from_length}
use Rattle.cj_threads.proofs.DealingLemmas.{made_more}
use Rattle.cj_threads.proofs.dealt_parts.all_made.Goals as goal

pub loop-output-init : goal.loop-output-init
loop-output-init g c =
    let gives = c.into_iter-output-iterator.ensures.into_iter_gives in
    record {
      whole = ap (λ made. map Ok made ++ into_iter_items c.into_iter-output-iterator.result) c.in_ok-made.ensures.items;
      len = gives.1 ∙ c.args.outputs.ok.0 ∙ sym (ap length gives.0);
    }

pub loop-output-preserved : goal.loop-output-preserved
loop-output-preserved g c =
    let i = c.loop-output.invariant in
    let steps = c.in-Some.ensures.steps in
    let made = c.loop-output.made.items in
    let rest = into_iter_items c.next.new.self in
    record {
      whole = ap (λ xs. map Ok xs ++ rest) c.in_ok-push.ensures.items
          ∙ made_more made c.in_ok-output.field-0 c.in-Some.output (into_iter_items c.loop-output.output-iterator) rest (into_iter_items c.into_iter-output-iterator.result)
          steps.0 c.in_ok-output.was i.whole;
      len = omega (arith, i.len, steps.1, ap length steps.0);
    }

pub returns : goal.returns
returns g c =
    let i = c.loop-output.invariant in
    let left = into_iter_items c.loop-output.output-iterator in
    let made = map Ok c.loop-output.made.items in
    let empty = nil_from_length left (omega (arith, i.len, c.in-None.ensures.steps.0)) in
    sym (append-nil made) ∙ ap (λ rs. made ++ rs) (sym empty) ∙ i.whole ∙ c.into_iter-output-iterator.ensures.into_iter_gives.0
