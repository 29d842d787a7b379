use Rattle.cj_bezier.proofs.JoinedBoxLemmas.{span_within}
use Rattle.cj_checker.proofs.hull_boxes.join_boxes.Goals as goal

pub returns-clause-value : goal.returns-clause-value
returns-clause-value c = λ i. record {
  x = record { least = c.join_spans.ensures.lower i; most = c.join_spans.ensures.upper i };
  y = record { least = c.join_spans-2.ensures.lower i; most = c.join_spans-2.ensures.upper i };
  z = record { least = c.join_spans-3.ensures.lower i; most = c.join_spans-3.ensures.upper i };
}

pub returns-clause-within : goal.returns-clause-within
returns-clause-within c m a b = record {
  x = span_within m c.args.a.x c.args.b.x c.join_spans.result (record { lower = c.join_spans.ensures.lower; upper = c.join_spans.ensures.upper }) a.x b.x;
  y = span_within m c.args.a.y c.args.b.y c.join_spans-2.result (record { lower = c.join_spans-2.ensures.lower; upper = c.join_spans-2.ensures.upper }) a.y b.y;
  z = span_within m c.args.a.z c.args.b.z c.join_spans-3.result (record { lower = c.join_spans-3.ensures.lower; upper = c.join_spans-3.ensures.upper }) a.z b.z;
}
