-- What a line SPAN tells, as a leaf.
use Rattle.cj_case.specs.Leaves.{PlainLeaf}
use Rattle.cj_report.specs.declared.span_line.SpanLine.{SpanLine}

abbrev pub leaf_of_line : SpanLine → PlainLeaf
leaf_of_line span = record {
  a = span.pair.a;
  b = span.pair.b;
  first = span.first.micros;
  last = span.last.micros;
  kind = span.kind;
}
