use Rattle.std.proofs.Common.{subst, arith, take_all}
use Rattle.std.specs.List.{All}
use Rattle.cj_track.specs.declared.segment.Segment.{Segment}
use Rattle.cj_track.specs.Nodes.{AreNodes}
use Rattle.cj_thin.proofs.ThinLemmas.{all_more}
use Rattle.cj_thin.proofs.laws.nodes_of.Goals as goal

pub loop-segment-init : goal.loop-segment-init
loop-segment-init c k d lt = absurd (omega arith)

pub loop-segment-preserved : goal.loop-segment-preserved
loop-segment-preserved c =
    all_more (λ (s : Segment). AreNodes s.nodes) c.loop-segment.segment-index c.as_slice-segments.result.now c.segment-item.result c.loop-segment-test.true c.segment-item.is
    (subst AreNodes c.as_slice-nodes.ensures.value c.as_slice-nodes.ensures.kept) c.loop-segment.invariant

pub returns : goal.returns
returns c =
    let segments = c.as_slice-segments.result.now in
    subst (All (λ (s : Segment). AreNodes s.nodes)) c.as_slice-segments.ensures.value
    (subst (All (λ (s : Segment). AreNodes s.nodes)) (take_all c.loop-segment.segment-index segments c.loop-segment-test.false) c.loop-segment.invariant)
