use Rattle.std.proofs.Common.{All, ◌∙◌, subst, arith}
use Rattle.std.proofs.lemmas.List.{take_all}
use Rattle.std.proofs.lemmas.List.Elements.{All-more}
use Rattle.cj_track.specs.declared.segment.Segment.{Segment}
use Rattle.cj_track.specs.Nodes.{AreNodes}
use Rattle.cj_rtn.proofs.TrackLemmas.{track_tame}
use Rattle.cj_rtn.proofs.laws.rules_of.Goals as goal

pub loop-segment-preserved : goal.loop-segment-preserved
loop-segment-preserved c =
    let segments = c.as_slice-segments.result.now in
    let here = subst AreNodes c.as_slice-nodes.ensures.value c.as_slice-nodes.ensures.kept in
    All-more (λ (s : Segment). AreNodes s.nodes) segments c.loop-segment.segment-index c.segment-item.result (omega arith) c.loop-segment.invariant
    (subst (λ (s : Segment). AreNodes s.nodes) c.segment-item.is here)

pub returns : goal.returns
returns c =
    let segments = c.as_slice-segments.result.now in
    track_tame c.args.track.now
    (subst (All (λ (s : Segment). AreNodes s.nodes)) (take_all c.loop-segment.segment-index segments (omega arith) ∙
    c.as_slice-segments.ensures.value) c.loop-segment.invariant)
