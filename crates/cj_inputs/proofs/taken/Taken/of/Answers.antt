use Rattle.std.proofs.Common.{◌∙◌, List, length, ap, arith}
use Rattle.cj_case.specs.CaseLimits.{node_total}
use Rattle.cj_track.specs.declared.track.Track.{Track}
use Rattle.cj_inputs.proofs.taken.Taken.of.Goals as goal

pub invariant_of-result : goal.invariant_of-result
invariant_of-result c =
    let same = c.deref.ensures.value in
    record {
      frame = c.requires.frame;
      counted = c.node_sum-nodes.ensures.value ∙ ap (λ (ts : List Track). node_total ts) same;
      few = omega (arith, c.node_sum-nodes.ensures.value, ap (λ (ts : List Track). node_total ts) same, c.requires.few);
      fewer = omega (arith, c.node_sum-nodes.ensures.many, ap (λ (ts : List Track). length ts) same);
    }
