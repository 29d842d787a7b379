use Rattle.std.proofs.Common.{◌≡◌, ◌∙◌, [], ◌∷◌, List, length, map, true, sym, ap, subst, arith}
use Rattle.std.proofs.lemmas.List.{length-append}
use Rattle.cj_track.specs.Tracks.{plain_track}
use Rattle.cj_track.specs.declared.track.Track.{Track}
use Rattle.cj_case.specs.CaseLimits.{node_total}
use Rattle.cj_case.specs.Frames.{HaveOneFrame}
use Rattle.cj_inputs.specs.Readings.{has_frame_of}
use Rattle.cj_inputs.proofs.ReadingLemmas.{nodes_behind, one_frame_more}
use Rattle.cj_inputs.proofs.taken.Taken.with_update.Goals as goal

pub invariant_of-result : goal.invariant_of-result
invariant_of-result c =
    let tracks = c.args.self.tracks.items in
    let track = c.args.track in
    let fits : has_frame_of (map plain_track tracks) (plain_track track) ≡ true =
    sym (ap (λ (ts : List Track). has_frame_of (map plain_track ts) (plain_track track)) c.deref.ensures.value) ∙ c.in_ok-check_limits.ensures.frame in
    record {
      frame = subst HaveOneFrame (sym c.in_ok-push.ensures.items) (one_frame_more tracks track c.args.self.frame fits);
      counted = omega (arith, c.args.self.counted, c.node_count.ensures.value, nodes_behind tracks track, ap node_total c.in_ok-push.ensures.items);
      few = omega (arith, c.in_ok-check_limits.ensures.nodes, c.args.limits.most_nodes);
      fewer = omega (arith, c.args.self.fewer, c.node_count.ensures.some, ap (λ (ts : List Track). length ts) c.in_ok-push.ensures.items, length-append tracks (track ∷ []));
    }
