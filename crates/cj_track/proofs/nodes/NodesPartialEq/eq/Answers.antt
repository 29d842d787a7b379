use Rattle.std.proofs.Common.{◌∙◌, ap}
use Rattle.std.specs.Cmp.Lexicographic.{pointwise}
use Rattle.cj_track.specs.Sameness.{same_node}
use Rattle.cj_track.proofs.nodes.NodesPartialEq.eq.Goals as goal

pub returns : goal.returns
returns c =
    let here = c.as_slice.ensures.value ∙ c.self.view_is in
    let there = c.as_slice-2.ensures.value ∙ c.other.view_is in
    c.eq.ensures ∙ (ap (λ xs. pointwise same_node xs c.as_slice-2.result.now) here ∙ ap (pointwise same_node c.args.self.now) there)
