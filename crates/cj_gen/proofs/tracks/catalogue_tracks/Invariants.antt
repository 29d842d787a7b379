use Rattle.std.proofs.Common.{◌≡◌, map}
use Rattle.std.specs.List.{range_with_len}
use Rattle.cj_track.specs.Tracks.{plain_track}
use Rattle.cj_gen.specs.MadeTracks.{track_of}
use Rattle.cj_gen.proofs.tracks.catalogue_tracks.Given as goal

abbrev pub invariant-loop-file : goal.invariant-loop-file
invariant-loop-file l = map plain_track l.tracks.items ≡ map (track_of l.seed l.minutes) (range_with_len 1 l.file-index)
