use Rattle.std.proofs.Common.{List, Result, map}
use Rattle.std.specs.List.{AllZip}
use Rattle.std.specs.Prelude.{IfOk}
use Rattle.std.specs.Vec.Iter.{into_iter_items}
use Rattle.cj_track.specs.PlainTracks.{PlainTrack}
use Rattle.cj_track.specs.Tracks.{plain_track}
use Rattle.cj_status.specs.declared.status.Status.{Status}
use Rattle.cj_inputs.specs.Batches.{tracks_after}
use Rattle.cj_inputs.specs.Readings.{Reads}
use Rattle.cj_inputs.proofs.BatchLemmas.{LeadsTo}
use Rattle.cj_inputs.proofs.taking.take_all.Given as goal

abbrev pub invariant-loop-reading : goal.invariant-loop-reading
invariant-loop-reading l = (said : List (Result PlainTrack Status)) → IfOk l.fn.readings (λ all. AllZip (Reads ⊥ plain_track) all.items said)
    → LeadsTo l.limits.nodes (into_iter_items l.reading-iterator) (map plain_track l.taken.tracks.items) (tracks_after l.limits.nodes (map plain_track l.fn.taken.tracks.items) said)
