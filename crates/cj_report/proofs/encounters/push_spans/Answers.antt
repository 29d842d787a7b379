use Rattle.std.proofs.Common.{arith, rules, ◌≡◌, ◌-◌, ◌++◌, length, take, drop, ap, sym, ◌∙◌}
use Rattle.std.specs.Prelude.{flat_map}
use Rattle.std.proofs.lemmas.Result.{IfOk-weaker, err_from_is_err_and}
use Rattle.cj_case.specs.Leaves.{plain_leaves}
use Rattle.cj_meet.specs.Spans.{spans_of}
use Rattle.cj_report.specs.Report.{span_line}
use Rattle.cj_report.specs.SpanLines.{leaf_of_line}
use Rattle.cj_report.proofs.RunLemmas.{step_last, step_longer, step_parted}
use Rattle.cj_report.proofs.encounters.push_spans.Goals as goal
use Rattle.cj_report.proofs.encounters.push_spans.Goals.{then-goes_on, else-goes_on+in_ok-push_span}

pub loop-leaf-preserved : goal.loop-leaf-preserved
loop-leaf-preserved c =
    let others = take (length c.args.leaves.now - 1) (drop 1 c.args.leaves.now) in
    let whole = c.args.text.now.items ++ flat_map span_line (spans_of (plain_leaves c.args.leaves.now)) in
    elim c.if-goes_on.branch [
      | then-goes_on w ↦
          step_longer c.loop-leaf.text.items c.if-goes_on.text.items whole (leaf_of_line c.loop-leaf.span) (leaf_of_line c.if-goes_on.span) others c.loop-leaf.leaf-index c.leaf-item.result
          (omega arith) (search rules) (sym c.goes_on.ensures ∙ w.if-goes_on.true) (ap leaf_of_line w.span-is)
          (ap (λ t. t.items) w.text-is) c.loop-leaf.invariant
      | else-goes_on+in_ok-push_span w ↦
          step_parted c.loop-leaf.text.items c.if-goes_on.text.items whole (leaf_of_line c.loop-leaf.span) (leaf_of_line c.if-goes_on.span) others c.loop-leaf.leaf-index c.leaf-item.result
          (omega arith) (search rules) (sym c.goes_on.ensures ∙ w.if-goes_on.false) (ap leaf_of_line w.span-is ∙ w.of-span-else-goes_on.ensures)
          (ap (λ t. t.items) w.text-is ∙ w.in_ok-push_span.ensures) c.loop-leaf.invariant
    ]

pub returns-in_err-push_span : goal.returns-in_err-push_span
returns-in_err-push_span c = rw (err_from_is_err_and c.from_residual.result c.from_residual.ensures.1).1 tt

pub returns : goal.returns
returns c =
    let others = take (length c.args.leaves.now - 1) (drop 1 c.args.leaves.now) in
    let now = c.push_span-2.new.text.items in
    let was = c.loop-leaf.text.items in
    let whole = c.args.text.now.items ++ flat_map span_line (spans_of (plain_leaves c.args.leaves.now)) in
    let run = leaf_of_line c.loop-leaf.span in
    IfOk-weaker c.push_span-2.result (λ _. now ≡ was ++ span_line run) (λ _. now ≡ whole)
    (λ _ written. step_last was now whole run others c.loop-leaf.leaf-index (omega arith) written c.loop-leaf.invariant) c.push_span-2.ensures
