use Rattle.std.proofs.Common.{◌≡◌, IfOk, List, map, subst}
use Rattle.cj_track.specs.declared.segment.Segment.{Segment}
use Rattle.cj_track.specs.Tracks.{plain_segment, plain_track}
use Rattle.cj_samples.specs.Samples.{sat_a}
use Rattle.cj_samples.proofs.tracks.track_of_two.Goals as goal

pub returns-clause-value : goal.returns-clause-value
returns-clause-value c =
    subst (λ (segments : List Segment). IfOk c.track.result (λ track. plain_track track ≡ sat_a (map plain_segment segments)))
    c.in_ok-vec.ensures.items c.track.ensures.value
