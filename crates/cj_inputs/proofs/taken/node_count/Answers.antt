use Rattle.std.proofs.Common.{◌≤◌, List, [], ◌∷◌, length, ap, arith}
use Rattle.std.proofs.lemmas.List.{take_all}
use Rattle.std.proofs.lemmas.List.Sums.{sum_by-cons}
use Rattle.cj_track.specs.Segments.{node_count}
use Rattle.cj_track.specs.declared.segment.Segment.{Segment}
use Rattle.cj_inputs.proofs.taken.node_count.Goals as goal

-- segments have nodes
some_nodes : (segments : List Segment) → 1 ≤ length segments → 1 ≤ node_count segments
some_nodes [] some = absurd (omega (arith, some))
some_nodes (segment ∷ segments) some = omega (arith, segment.enough, sum_by-cons (λ (s : Segment). length s.nodes) segment segments)

pub returns-clause-some : goal.returns-clause-some
returns-clause-some c =
    let segments = c.args.track.now.segments in
    let are = c.as_slice-segment-items.ensures.kept.some in
    let some = some_nodes segments (omega (arith, are, ap (λ (ss : List Segment). length ss) c.as_slice-segment-items.ensures.value)) in
    let past = c.loop-segment-test.false in
    let all = take_all c.loop-segment.segment-index segments (omega (arith, past, ap (λ (ss : List Segment). length ss) c.as_slice-segment-items.ensures.value)) in
    omega (arith, some, c.loop-segment.invariant, ap (λ (ss : List Segment). node_count ss) all)
