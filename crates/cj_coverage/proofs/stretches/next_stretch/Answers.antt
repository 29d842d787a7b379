use Rattle.std.proofs.Common.{refl}
use Rattle.cj_hermite.proofs.SpanLemmas.{none_left}
use Rattle.cj_coverage.proofs.StretchLemmas.{stretch_of}
use Rattle.cj_coverage.proofs.stretches.next_stretch.Goals as goal

pub returns-then-ended-segments : goal.returns-then-ended-segments
returns-then-ended-segments c =
    none_left c.args.track.now c.as_slice-segments.result.now c.args.from.micros c.ended-ended.result c.as_slice-segments.ensures.value c.ended-ended.ensures c.if-ended-segments.true

pub returns : goal.returns
returns c =
    let kept = c.as_slice-segments.ensures.kept in
    stretch_of c.args.track.now c.as_slice-segments.result.now c.args.from.micros c.ended-ended.result c.index-segments-ended.result c.index-segments-ended-2.result _ c.as_slice-segments.ensures.value
    kept.order c.ended-ended.ensures c.if-ended-segments.false c.later.ensures refl
