use Rattle.std.proofs.Common.{◌≡◌, ◌++◌}
use Rattle.std.specs.Prelude.{flat_map}
use Rattle.cj_case.specs.Leaves.{plain_leaves}
use Rattle.cj_meet.specs.Spans.{spans_of}
use Rattle.cj_report.specs.Report.{span_line}
use Rattle.cj_report.specs.SpanLines.{leaf_of_line}
use Rattle.cj_report.proofs.RunLemmas.{lines_from}
use Rattle.cj_report.proofs.encounters.push_spans.Given as goal

abbrev pub invariant-loop-leaf : goal.invariant-loop-leaf
invariant-loop-leaf l =
    l.text.items ++ lines_from (leaf_of_line l.span) l.others l.leaf-index ≡ l.fn.text.items ++ flat_map span_line (spans_of (plain_leaves l.fn.leaves))
