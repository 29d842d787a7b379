use Rattle.std.proofs.Common.{◌-◌, ◌+◌, ◌++◌, ◌∙◌, List, map, length, drop, ap, arith, length-take, length-drop}
use Rattle.std.proofs.lemmas.List.{map_push}
use Rattle.cj_track.specs.PlainTracks.{PlainNode}
use Rattle.cj_track.specs.Tracks.{plain_node}
use Rattle.cj_thin.specs.Thinned as spec
use Rattle.cj_thin.proofs.StepLemmas.{rest_steps}
use Rattle.cj_thin.proofs.KeptLemmas.{kept_more, kept_all}
use Rattle.cj_thin.proofs.keeping.kept.Goals as goal

pub left_out-requires-clause-steps : goal.left_out-requires-clause-steps
left_out-requires-clause-steps c =
    rest_steps c.loop-at.at (length c.args.nodes.now - (c.loop-at.at + 1)) c.args.nodes.now c.index-nodes-at.result c.loop-at-test.true c.index-nodes-at.is c.requires.steps

pub loop-at-preserved : goal.loop-at-preserved
loop-at-preserved c =
    let e = c.args.e in
    let at = c.loop-at.at in
    let nodes = c.args.nodes.now in
    let x = c.index-nodes-at.result in
    let out = c.left_out.result in
    let done = c.loop-at.kept.items in
    let more = ap (map plain_node) c.in_ok-push.ensures.items ∙ map_push plain_node done x in
    let n = length nodes - (at + 1) in
    record {
      told = ap (λ (ks : List PlainNode). ks ++ spec.kept e (map plain_node (drop (at + (1 + out)) nodes))) more
          ∙ kept_more e at out nodes x (map plain_node done) (spec.kept e (map plain_node nodes)) c.loop-at-test.true c.index-nodes-at.is c.left_out.ensures.value c.loop-at.invariant.told;
      within = omega (arith, c.loop-at-test.true, c.left_out.ensures.within, length-take n (drop (at + 1) nodes), length-drop (at + 1) nodes);
    }

pub returns : goal.returns
returns c = kept_all c.args.e c.loop-at.at c.args.nodes.now (map plain_node c.loop-at.kept.items) (spec.kept c.args.e (map plain_node c.args.nodes.now)) c.loop-at-test.false c.loop-at.invariant.told
