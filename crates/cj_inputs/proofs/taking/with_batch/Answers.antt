use Rattle.std.proofs.Common.{List, map}
use Rattle.cj_track.specs.PlainTracks.{PlainTrack}
use Rattle.cj_track.specs.Tracks.{plain_track}
use Rattle.cj_inputs.specs.declared.progress.Progress.{Progress}
use Rattle.cj_inputs.specs.declared.taken.Taken.{Taken}
use Rattle.cj_inputs.proofs.BatchLemmas.{reads_wider}
use Rattle.cj_inputs.proofs.taking.with_batch.Goals as goal

pub returns-in-Err-clause-told : goal.returns-in-Err-clause-told
returns-in-Err-clause-told c = λ expected told.
    let tracks : Taken → List PlainTrack = λ all. map plain_track all.tracks.items in
    reads_wider ⊥ ⊥ tracks (λ (next : Progress). tracks next.taken) c.in-Err.why expected (λ none. none) (rw c.in-Err.is at told)
