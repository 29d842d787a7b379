use Rattle.std.proofs.Common.{◌≡◌, ℕ, List, map, length, ap, sym, subst, ◌∙◌, arith}
use Rattle.cj_track.specs.declared.node.Node.{Node}
use Rattle.cj_track.specs.Nodes.{AreNodes}
use Rattle.cj_track.specs.PlainTracks.{PlainNode, PlainMatrix, PlainSegment}
use Rattle.cj_track.specs.Tracks.{plain_node, plain_matrix}
use Rattle.cj_track.specs.Useable.{LiesWithin}
use Rattle.cj_thin.specs.Thinned.{kept}
use Rattle.cj_thin.proofs.ThinLemmas.{kept_nodes, kept_round}
use Rattle.cj_thin.proofs.thinning.thin_segment.Goals as goal

pub new-requires : goal.new-requires
new-requires c =
    let e = c.args.e in
    let nodes = c.args.segment.now.nodes in
    let are : AreNodes nodes = subst AreNodes c.as_slice.ensures.value c.as_slice.ensures.kept in
    kept_nodes e nodes c.in_ok-nodes.nodes.items are (c.in_ok-nodes.ensures ∙ ap (λ (ns : List Node). kept e (map plain_node ns)) c.as_slice.ensures.value)

pub invariant_of-result : goal.invariant_of-result
invariant_of-result c =
    let e = c.args.e in
    let segment = c.args.segment.now in
    let nodes = segment.nodes in
    let ks = c.in_ok-nodes.nodes.items in
    let are : AreNodes nodes = subst AreNodes c.as_slice.ensures.value c.as_slice.ensures.kept in
    let is : map plain_node ks ≡ kept e (map plain_node nodes) = c.in_ok-nodes.ensures ∙ ap (λ (ns : List Node). kept e (map plain_node ns)) c.as_slice.ensures.value in
    let good = kept_nodes e nodes ks are is in
    record {
      some = segment.some;
      enough = omega (arith, good.enough, ap (λ (ns : List Node). length ns) c.new.ensures);
      within = subst (LiesWithin segment.first.micros segment.last.micros) (sym c.new.ensures) (kept_round e segment.first.micros segment.last.micros nodes ks are is segment.within);
    }

-- two segments are one where their states and their covariances are
same_segment : (first last : ℕ) (ns ms : List PlainNode) (cs ds : List PlainMatrix) → ns ≡ ms → cs ≡ ds →
    ◌≡◌ {A = PlainSegment} (record { first = first; last = last; nodes = ns; covariances = cs }) (record { first = first; last = last; nodes = ms; covariances = ds })
same_segment first last ns ms cs ds p q = λ i. record { first = first; last = last; nodes = p i; covariances = q i }

pub returns-clause-value : goal.returns-clause-value
returns-clause-value c =
    let segment = c.args.segment.now in
    same_segment segment.first.micros segment.last.micros _ _ _ _
    (ap (map plain_node) c.new.ensures ∙ c.in_ok-nodes.ensures ∙ ap (λ (ns : List Node). kept c.args.e (map plain_node ns)) c.as_slice.ensures.value)
    (ap (map plain_matrix) (c.new-2.ensures ∙ c.in_ok-matrices.ensures.items ∙ c.as_slice-2.ensures))
