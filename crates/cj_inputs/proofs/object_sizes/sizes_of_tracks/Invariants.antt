use Rattle.std.proofs.Common.{◌≡◌, ℕ, List, Bor, map, take}
use Rattle.cj_track.specs.declared.track.Track.{Track}
use Rattle.cj_inputs.proofs.object_sizes.sizes_of_tracks.Given as goal

abbrev pub invariant-loop-track : goal.invariant-loop-track
invariant-loop-track l = map (λ (id : Bor (List ℕ)). id.now) l.ids.items ≡ map (λ (t : Track). t.id) (take l.track-index l.tracks)
