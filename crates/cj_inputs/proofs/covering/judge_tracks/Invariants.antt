use Rattle.std.proofs.Common.{◌≡◌, map, drop}
use Rattle.cj_track.specs.Tracks.{plain_track}
use Rattle.cj_inputs.specs.Coverings.{all_cover}
use Rattle.cj_inputs.proofs.covering.judge_tracks.Given as goal

abbrev pub invariant-loop-track : goal.invariant-loop-track
invariant-loop-track l =
    all_cover l.window.first.micros l.window.last.micros (map plain_track (drop l.track-index l.tracks)) ≡ all_cover l.window.first.micros l.window.last.micros (map plain_track l.tracks)
