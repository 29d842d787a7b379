use Rattle.std.proofs.Common.{◌≡◌, ◌≤◌, ◌++◌, List, Some, map, take}
use Rattle.cj_case.specs.CaseLimits.{node_total}
use Rattle.cj_inputs.specs.Readings.{nodes_in}
use Rattle.cj_io.specs.declared.file.FileBytes.{FileBytes}
use Rattle.cj_thin.specs.Thinned.{thinned}
use Rattle.cj_track.specs.Tracks.{plain_track}
use Rattle.cj_outputs.proofs.ThinnedLemmas.{thin_outputs}
use Rattle.cj_outputs.proofs.thinning.put_tracks.Given as goal

abbrev pub invariant-loop-track : goal.invariant-loop-track
invariant-loop-track g l = record {
  kept : l.kept ≡ nodes_in (map (thinned l.e) (map plain_track (take l.track-index l.tracks)));
  few : l.kept ≤ node_total (take l.track-index l.tracks);
  put : (old : List FileBytes) → g.S.Shelf.outputs l.fn.shelf ≡ Some old → g.S.Shelf.outputs l.shelf ≡ Some (old ++ thin_outputs l.e (take l.track-index l.tracks));
  later : g.S.Shelf.faults l.fn.shelf ≤ g.S.Shelf.faults l.shelf;
}
