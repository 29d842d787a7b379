use Rattle.std.proofs.Common.{◌^◌, List, All, subst, arith}
use Rattle.std.proofs.lemmas.List.{take_all}
use Rattle.cj_interval.proofs.ListLemmas.{Each, All-from_each, each_from_All}
use Rattle.cj_track.specs.declared.node.Node.{Node}
use Rattle.cj_track.specs.declared.segment.Segment.{Segment}
use Rattle.cj_track.specs.Nodes.{AreNodes}
use Rattle.cj_track.specs.Segments.{AreInOrder}
use Rattle.cj_track.specs.Tracks.{plain_track}
use Rattle.cj_hermite.proofs.LengthLemmas.{rise_through}
use Rattle.cj_bezier.specs.Gaps.{gap_terms}
use Rattle.cj_bezier.specs.Parts.{hulls_of}
use Rattle.cj_bezier.specs.Shells.{IsOuter}
use Rattle.cj_cert.specs.Reaches.{IsHullNear}
use Rattle.cj_cert.proofs.BoundLemmas.{bounded, hulls_near, hulls_outer}
use Rattle.cj_cert.proofs.TimesLemmas.{in_order, in_time, one_more}
use Rattle.cj_cert.proofs.accepting.rules_of.Goals as goal

pub loop-segment-init : goal.loop-segment-init
loop-segment-init c k d lt = absurd (omega arith)

pub loop-segment-preserved : goal.loop-segment-preserved
loop-segment-preserved c =
    one_more (λ s. AreNodes s.nodes) c.loop-segment.segment-index c.as_slice-segments.result.now c.segment-item.result (omega arith) c.segment-item.is c.loop-segment.invariant
    (subst (λ (nodes : List Node). AreNodes nodes) c.as_slice-nodes.ensures.value c.as_slice-nodes.ensures.kept)

-- the nodes of each segment
all_nodes : (c : goal.After-loop-segment) → Each (λ s. AreNodes s.nodes) c.args.track.now.segments
all_nodes c =
    let segments = c.as_slice-segments.result.now in
    let all : All (λ s. AreNodes s.nodes) segments =
    subst (λ (xs : List Segment). All (λ s. AreNodes s.nodes) xs) (take_all c.loop-segment.segment-index segments (omega arith)) c.loop-segment.invariant in
    subst (λ (xs : List Segment). Each (λ s. AreNodes s.nodes) xs) c.as_slice-segments.ensures.value (each_from_All (λ s. AreNodes s.nodes) segments all)

pub returns-clause-time : goal.returns-clause-time
returns-clause-time c =
    in_time (plain_track c.args.track.now)
    (in_order c.args.track.now.segments (subst (λ (xs : List Segment). AreInOrder xs) c.as_slice-segments.ensures.value c.as_slice-segments.ensures.kept.order) (all_nodes c))
    (rise_through c.args.track.now.segments (all_nodes c))

pub returns-clause-within : goal.returns-clause-within
returns-clause-within c from to =
    let e = plain_track c.args.track.now in
    All-from_each (λ h. IsOuter (gap_terms h) (10 ^ 18)) (hulls_of e from to)
    (hulls_outer e from to (returns-clause-time c from to) (rise_through c.args.track.now.segments (all_nodes c)) (bounded c.args.track.now.segments (all_nodes c)))

pub returns-clause-near : goal.returns-clause-near
returns-clause-near c from to =
    let e = plain_track c.args.track.now in
    All-from_each IsHullNear (hulls_of e from to)
    (hulls_near e from to (returns-clause-time c from to) (rise_through c.args.track.now.segments (all_nodes c)) (bounded c.args.track.now.segments (all_nodes c)))
