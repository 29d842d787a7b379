use Rattle.std.proofs.Common.{◌≡◌, map, take}
use Rattle.cj_track.specs.Tracks.{plain_track}
use Rattle.cj_inputs.proofs.copying.copies_of.Given as goal

-- the copies so far say what the first tracks say
abbrev pub invariant-loop-track : goal.invariant-loop-track
invariant-loop-track l = map plain_track l.copies.items ≡ map plain_track (take l.track-index l.tracks)
