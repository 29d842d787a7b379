use Rattle.cj_hermite.proofs.SpanLemmas.{none_left, next_of}
use Rattle.cj_hermite.proofs.walking.next_state.Goals as goal

pub returns-then-ended-segments : goal.returns-then-ended-segments
returns-then-ended-segments c =
    none_left c.args.track.now c.as_slice-segments.result.now c.args.from.micros c.ended-ended.result c.as_slice-segments.ensures.value c.ended-ended.ensures c.if-ended-segments.true

pub returns : goal.returns
returns c =
    let kept = c.as_slice-segments.ensures.kept in
    next_of c.args.track.now c.as_slice-segments.result.now c.args.from.micros c.ended-ended.result c.later.result.micros c.index-segments-ended.result c.as_slice-segments.ensures.value
    kept.order c.ended-ended.ensures c.if-ended-segments.false c.later.ensures
