use Rattle.std.proofs.Common.{◌≡◌, ◌++◌, map, take}
use Rattle.std.specs.Prelude.{flat_map}
use Rattle.cj_hermite.specs.CommonRuns.{run_of}
use Rattle.cj_report.specs.Report.{covered_line}
use Rattle.cj_report.proofs.objects.push_spans.Given as goal

abbrev pub invariant-loop-span : goal.invariant-loop-span
invariant-loop-span l = l.text.items ≡ l.fn.text.items ++ flat_map covered_line (map run_of (take l.span-index l.spans))
