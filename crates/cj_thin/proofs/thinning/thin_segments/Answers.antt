use Rattle.std.proofs.Common.{map, subst, take_all}
use Rattle.std.specs.List.{All}
use Rattle.cj_track.specs.declared.segment.Segment.{Segment}
use Rattle.cj_track.specs.Nodes.{AreNodes}
use Rattle.cj_track.specs.Tracks.{plain_segment}
use Rattle.cj_thin.specs.Thinned.{thinned_segment}
use Rattle.cj_thin.proofs.ThinLemmas.{segments_more, segments_all, all_more, kept_segments}
use Rattle.cj_thin.proofs.thinning.thin_segments.Goals as goal

pub loop-segment-preserved : goal.loop-segment-preserved
loop-segment-preserved c =
    let e = c.args.e in
    let at = c.loop-segment.segment-index in
    let segments = c.args.segments.now in
    let s = c.segment-item.result in
    let k = c.in_ok-thin_segment.field-0 in
    let i = c.loop-segment.invariant in
    record {
      told = segments_more e at segments c.loop-segment.thin.items c.push.new.self.items s k (map (thinned_segment e) (map plain_segment segments)) c.loop-segment-test.true c.segment-item.is
          c.in_ok-thin_segment.ensures.value c.in_ok-push.ensures.items i.told;
      nodes = all_more (λ (x : Segment). AreNodes x.nodes) at segments s c.loop-segment-test.true c.segment-item.is c.in_ok-thin_segment.ensures.nodes i.nodes;
    }

pub returns-clause-segments : goal.returns-clause-segments
returns-clause-segments c =
    let e = c.args.e in
    let segments = c.args.segments.now in
    let thin = c.loop-segment.thin.items in
    kept_segments e segments thin
    (segments_all e c.loop-segment.segment-index segments thin (map (thinned_segment e) (map plain_segment segments)) c.loop-segment-test.false c.loop-segment.invariant.told)
    c.requires.segments

pub returns-clause-nodes : goal.returns-clause-nodes
returns-clause-nodes c =
    let segments = c.args.segments.now in
    subst (All (λ (s : Segment). AreNodes s.nodes)) (take_all c.loop-segment.segment-index segments c.loop-segment-test.false) c.loop-segment.invariant.nodes
