use Rattle.std.proofs.Common.{map, subst, take_all}
use Rattle.std.specs.List.{All}
use Rattle.cj_track.specs.declared.segment.Segment.{Segment}
use Rattle.cj_track.specs.Nodes.{AreNodes}
use Rattle.cj_track.specs.Tracks.{plain_segment}
use Rattle.cj_trim.specs.Trimmed.{trimmed_segment}
use Rattle.cj_trim.proofs.TrimLemmas.{segments_more, segments_all, all_more, left_segments}
use Rattle.cj_trim.proofs.trimming.trim_segments.Goals as goal

pub loop-segment-preserved : goal.loop-segment-preserved
loop-segment-preserved c =
    let first = c.args.window.first.micros in
    let last = c.args.window.last.micros in
    let at = c.loop-segment.segment-index in
    let segments = c.args.segments.now in
    let s = c.segment-item.result in
    let k = c.in_ok-trim_segment.field-0 in
    let i = c.loop-segment.invariant in
    record {
      told = segments_more first last at segments c.loop-segment.trimmed.items c.push.new.self.items s k (map (trimmed_segment first last) (map plain_segment segments)) c.loop-segment-test.true
          c.segment-item.is c.in_ok-trim_segment.ensures.value c.in_ok-push.ensures.items i.told;
      nodes = all_more (λ (x : Segment). AreNodes x.nodes) at segments s c.loop-segment-test.true c.segment-item.is c.in_ok-trim_segment.ensures.nodes i.nodes;
    }

pub returns-clause-segments : goal.returns-clause-segments
returns-clause-segments c =
    let first = c.args.window.first.micros in
    let last = c.args.window.last.micros in
    let segments = c.args.segments.now in
    let trimmed = c.loop-segment.trimmed.items in
    left_segments first last segments trimmed
    (segments_all first last c.loop-segment.segment-index segments trimmed (map (trimmed_segment first last) (map plain_segment segments)) c.loop-segment-test.false c.loop-segment.invariant.told)
    c.requires

pub returns-clause-nodes : goal.returns-clause-nodes
returns-clause-nodes c =
    let segments = c.args.segments.now in
    subst (All (λ (s : Segment). AreNodes s.nodes)) (take_all c.loop-segment.segment-index segments c.loop-segment-test.false) c.loop-segment.invariant.nodes
