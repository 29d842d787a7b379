use Rattle.std.proofs.Common.{sym}
use Rattle.cj_report.proofs.CoveredLemmas.{none_told, some_told}
use Rattle.cj_report.proofs.objects.push_covered.Goals as goal

pub returns-then-is_empty : goal.returns-then-is_empty
returns-then-is_empty c = rw (none_told c.args.spans.now (sym c.if-is_empty.ensures)) c.push_line.ensures

pub returns-else-is_empty : goal.returns-else-is_empty
returns-else-is_empty c = rw (some_told c.args.spans.now (sym c.if-is_empty.ensures)) c.push_spans.ensures
