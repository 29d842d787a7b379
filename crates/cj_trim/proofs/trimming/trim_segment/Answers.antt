use Rattle.std.proofs.Common.{◌≡◌, ◌≤◌, ℕ, List, map, length, ap, ap₂, sym, subst, ◌∙◌}
use Rattle.cj_track.specs.declared.node.Node.{Node}
use Rattle.cj_track.specs.Nodes.{AreNodes}
use Rattle.cj_track.specs.Tracks.{plain_node, plain_matrix, plain_segment}
use Rattle.cj_track.specs.Useable.{LiesWithin}
use Rattle.cj_trim.specs.Trimmed.{first_left, last_left, needed}
use Rattle.cj_trim.proofs.TrimLemmas.{round_part, same_segment}
use Rattle.cj_trim.proofs.trimming.trim_segment.Goals as goal

pub needed-requires-clause-within : goal.needed-requires-clause-within
needed-requires-clause-within c =
    let segment = c.args.segment.now in
    round_part segment.first.micros segment.last.micros c.span_left-span.result.first.micros c.span_left-span.result.last.micros c.as_slice.result.now segment.nodes c.as_slice.ensures.value
    segment.enough segment.within c.span_left-span.ensures.from c.span_left-span.ensures.to

pub new-requires : goal.new-requires
new-requires c = subst AreNodes (sym c.in_ok-nodes.ensures.items) c.needed.ensures.nodes

pub invariant_of-result : goal.invariant_of-result
invariant_of-result c =
    let span = c.span_left-span.result in
    let is : c.new.result ≡ c.needed.result.now = c.new.ensures ∙ c.in_ok-nodes.ensures.items in
    record {
      some = c.span_left-span.ensures.some;
      enough = subst (λ (ns : List Node). 2 ≤ length ns) (sym is) c.needed.ensures.nodes.enough;
      within = subst (LiesWithin span.first.micros span.last.micros) (sym is) c.needed.ensures.within;
    }

pub returns-clause-value : goal.returns-clause-value
returns-clause-value c =
    let window = c.args.window in
    let segment = c.args.segment.now in
    let left = c.span_left-span.ensures in
    same_segment _ _ _ _ _ _ _ _ left.first left.last
    (ap (map plain_node) (c.new.ensures ∙ c.in_ok-nodes.ensures.items) ∙ c.needed.ensures.value
    ∙ ap₂ (λ (f l : ℕ). needed f l (map plain_node c.as_slice.result.now)) left.first left.last
    ∙ ap (λ (ns : List Node). needed (first_left window.first.micros window.last.micros (plain_segment segment)) (last_left window.first.micros window.last.micros (plain_segment segment)) (map plain_node ns))
    c.as_slice.ensures.value)
    (ap (map plain_matrix) (c.new-2.ensures ∙ c.in_ok-matrices.ensures.items ∙ c.as_slice-2.ensures))
