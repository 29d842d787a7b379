use Rattle.std.proofs.Common.{◌≡◌, ℕ, List, map, length, ap, sym, subst, ◌∙◌, arith}
use Rattle.cj_track.specs.declared.node.Node.{Node}
use Rattle.cj_track.specs.Nodes.{AreNodes}
use Rattle.cj_track.specs.PlainTracks.{PlainNode, PlainMatrix, PlainSegment}
use Rattle.cj_track.specs.Tracks.{plain_node, plain_matrix}
use Rattle.cj_track.specs.Useable.{LiesWithin}
use Rattle.cj_inputs.proofs.copying.copy_of_segment.Goals as goal

pub new-requires : goal.new-requires
new-requires c = subst AreNodes (sym c.in_ok-nodes.ensures.items) c.as_slice.ensures.kept

pub invariant_of-result : goal.invariant_of-result
invariant_of-result c =
    let segment = c.args.segment.now in
    let same = c.new.ensures ∙ c.in_ok-nodes.ensures.items ∙ c.as_slice.ensures.value in
    record {
      some = segment.some;
      enough = omega (arith, segment.enough, ap (λ (ns : List Node). length ns) same);
      within = subst (LiesWithin segment.first.micros segment.last.micros) (sym same) segment.within;
    }

-- two segments say the same where their nodes and their covariances do
same_segment : (first last : ℕ) (ns ms : List PlainNode) (cs ds : List PlainMatrix) → ns ≡ ms → cs ≡ ds →
    ◌≡◌ {A = PlainSegment} (record { first = first; last = last; nodes = ns; covariances = cs }) (record { first = first; last = last; nodes = ms; covariances = ds })
same_segment first last ns ms cs ds p q = λ i. record { first = first; last = last; nodes = p i; covariances = q i }

pub returns : goal.returns
returns c =
    let segment = c.args.segment.now in
    same_segment segment.first.micros segment.last.micros _ _ _ _
    (ap (map plain_node) (c.new.ensures ∙ c.in_ok-nodes.ensures.items ∙ c.as_slice.ensures.value))
    (ap (map plain_matrix) (c.new-2.ensures ∙ c.in_ok-matrices.ensures.items ∙ c.as_slice-2.ensures))
