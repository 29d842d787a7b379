use Rattle.std.proofs.Common.{◌∙◌, ◌++◌, ℕ, List, map, ap}
use Rattle.cj_track.specs.Tracks.{plain_track}
use Rattle.cj_inputs.specs.ObjectPrimaries.{ids_of}
use Rattle.cj_inputs.proofs.PrimaryLemmas.{lent}
use Rattle.cj_inputs.proofs.object_primaries.ids_of.Goals as goal

pub returns : goal.returns
returns c =
    c.in_ok-push_ids-2.ensures
    ∙ ap (λ (ids : List (List ℕ)). ids ++ ids_of (map plain_track c.args.others.now)) (c.in_ok-push_ids.ensures
    ∙ ap (λ (ids : List (List ℕ)). ids ++ ids_of (map plain_track c.args.tracks.now)) (ap (map lent) c.in_ok-ids.ensures.items))
