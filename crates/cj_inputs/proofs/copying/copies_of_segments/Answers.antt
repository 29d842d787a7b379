use Rattle.cj_track.specs.Tracks.{plain_segment}
use Rattle.cj_inputs.proofs.CopyLemmas.{copied_segments, copies_all, copies_more}
use Rattle.cj_inputs.proofs.copying.copies_of_segments.Goals as goal

pub loop-segment-preserved : goal.loop-segment-preserved
loop-segment-preserved c =
    copies_more plain_segment c.loop-segment.segment-index c.args.segments.now c.loop-segment.copies.items c.push.new.self.items c.segment-item.result
    c.in_ok-copy_of_segment.field-0 c.loop-segment-test.true c.segment-item.is c.in_ok-copy_of_segment.ensures c.in_ok-push.ensures.items c.loop-segment.invariant

pub returns-clause-value : goal.returns-clause-value
returns-clause-value c =
    copies_all plain_segment c.loop-segment.segment-index c.args.segments.now c.loop-segment.copies.items c.loop-segment-test.false c.loop-segment.invariant

pub returns-clause-segments : goal.returns-clause-segments
returns-clause-segments c = copied_segments c.args.segments.now c.loop-segment.copies.items (returns-clause-value c) c.requires
