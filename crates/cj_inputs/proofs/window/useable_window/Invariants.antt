use Rattle.std.proofs.Common.{◌≡◌, drop, map, fold}
use Rattle.std.specs.Prelude.{min, max}
use Rattle.cj_track.specs.Tracks.{plain_track}
use Rattle.cj_inputs.specs.Windows.{start_of, stop_of}
use Rattle.cj_inputs.proofs.window.useable_window.Given as goal

abbrev pub invariant-loop-track : goal.invariant-loop-track
invariant-loop-track l = record {
  first : fold min l.useable.first.micros (map start_of (map plain_track (drop l.track-index l.others))) ≡ fold min l.initial.useable.first.micros (map start_of (map plain_track l.others));
  last : fold max l.useable.last.micros (map stop_of (map plain_track (drop l.track-index l.others))) ≡ fold max l.initial.useable.last.micros (map stop_of (map plain_track l.others));
}
