use Rattle.std.proofs.Common.{◌≡◌, [], ◌∷◌, ap, ◌∙◌}
use Rattle.std.proofs.lemmas.Result.{IfOk-weaker}
use Rattle.cj_track.specs.PlainTracks.{PlainSegment}
use Rattle.cj_track.specs.Tracks.{plain_segment, plain_track}
use Rattle.cj_samples.specs.Samples.{sat_a}
use Rattle.cj_samples.specs.Scenes.{path_along_y}
use Rattle.cj_samples.proofs.passing.along_y.Goals as goal

pub returns-clause-frame : goal.returns-clause-frame
returns-clause-frame c = c.track_of.ensures.frame

pub returns-clause-nodes : goal.returns-clause-nodes
returns-clause-nodes c = c.track_of.ensures.nodes

pub returns-clause-value : goal.returns-clause-value
returns-clause-value c =
    IfOk-weaker c.track_of.result (λ track. plain_track track ≡ sat_a (plain_segment c.in_ok-moving.field-0 ∷ [])) (λ track. plain_track track ≡ path_along_y)
    (λ track is. is ∙ ap (λ (s : PlainSegment). sat_a (s ∷ [])) c.in_ok-moving.ensures.value) c.track_of.ensures.value
