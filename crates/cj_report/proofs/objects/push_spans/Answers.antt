use Rattle.std.proofs.lemmas.Result.{IfOk-from_err}
use Rattle.cj_hermite.specs.CommonRuns.{run_of}
use Rattle.cj_kvn.proofs.TextLemmas.{part_more_of}
use Rattle.cj_report.specs.Report.{covered_line}
use Rattle.cj_report.proofs.objects.push_spans.Goals as goal

pub loop-span-preserved : goal.loop-span-preserved
loop-span-preserved c =
    part_more_of covered_line run_of c.args.spans.now c.loop-span.span-index c.span-item.result c.args.text.now.items c.loop-span.text.items c.push_line.new.text.items
    c.loop-span-test.true c.span-item.is c.loop-span.invariant (rw (c.epoch_text.ensures.exact, c.epoch_text-in-loop-span.ensures.exact) at c.in_ok-push_line.ensures)

pub returns-in_err-push_line : goal.returns-in_err-push_line
returns-in_err-push_line c = IfOk-from_err c.from_residual.result _ c.from_residual.ensures.0
