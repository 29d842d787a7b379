use Rattle.std.proofs.Common.{◌≡◌, ℕ, suc, ◌+◌, ◌-◌, ◌++◌, ◌∷◌, ◌∙◌, List, length, drop, drop-cons, append_assoc, ap, sym, arith}
use Rattle.std.proofs.lemmas.List.Sums.{sum_by-cons}
use Rattle.cj_track.specs.Segments.{node_count, starts_from}
use Rattle.cj_track.specs.declared.node.Node.{Node}
use Rattle.cj_track.specs.declared.segment.Segment.{Segment}
use Rattle.cj_track.proofs.segments.starts_of.Goals as goal

pub loop-segment-init : goal.loop-segment-init
loop-segment-init c = record {
  told = ap (λ starts. starts ++ starts_from 0 c.args.segments.now) c.in_ok-starts.ensures.items;
  room = omega arith;
}

pub loop-segment-preserved : goal.loop-segment-preserved
loop-segment-preserved g =
    let at = g.loop-segment.segment-index in
    let segments = g.args.segments.now in
    let segment = g.segment-item.result in
    let starts = g.loop-segment.starts.items in
    let start = g.loop-segment.start in
    let rest = drop (at + 1) segments in
    let nodes = ap (λ (ns : List Node). length ns) g.as_slice.ensures.value in
    let after : suc at ≡ at + 1 = omega arith in
    let split : drop at segments ≡ segment ∷ rest = drop-cons segments at segment (omega (arith, g.loop-segment-test.true))
    ∙ ap (λ (s : Segment). s ∷ drop (suc at) segments) (sym g.segment-item.is) ∙ ap (λ (k : ℕ). segment ∷ drop k segments) after in
    let counted : node_count (drop at segments) ≡ length segment.nodes + node_count rest =
    ap node_count split ∙ sum_by-cons (λ (s : Segment). length s.nodes) segment rest in
    record {
      told = ap (λ (ss : List ℕ). ss ++ starts_from (start + (length g.as_slice.result.now - 1)) rest) g.in_ok-push.ensures.items
          ∙ append_assoc starts _ _
          ∙ ap (λ (n : ℕ). starts ++ start ∷ starts_from (start + (n - 1)) rest) nodes
          ∙ ap (λ (ss : List Segment). starts ++ starts_from start ss) (sym split)
          ∙ g.loop-segment.invariant.told;
      room = omega (arith, nodes, counted, g.loop-segment.invariant.room, segment.some);
    }
