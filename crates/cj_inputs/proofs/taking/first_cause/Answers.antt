use Rattle.std.proofs.Common.{List, Result, Err, map, refl, sym, subst}
use Rattle.std.specs.Prelude.{⊤}
use Rattle.cj_track.specs.PlainTracks.{PlainTrack}
use Rattle.cj_track.specs.Tracks.{plain_track}
use Rattle.cj_status.specs.declared.status.Status.{Status}
use Rattle.cj_status.specs.Steps.{◌>>=◌}
use Rattle.cj_words.specs.Settings.{plain_settings}
use Rattle.cj_inputs.specs.Batches.{said_in, tracks_after}
use Rattle.cj_inputs.specs.Readings.{Reads}
use Rattle.cj_inputs.specs.declared.taken.Taken.{Taken}
use Rattle.cj_inputs.proofs.BatchLemmas.{front_fails}
use Rattle.cj_inputs.proofs.taking.first_cause.Goals as goal

pub returns-in-Ok-clause-told : goal.returns-in-Ok-clause-told
returns-in-Ok-clause-told g c = λ behind each.
    subst (λ (r : Result (List PlainTrack) Status). Reads ⊤ (λ (all : List PlainTrack). all) (Err c.args.why) (r >>= behind)) (sym c.in-Ok.ensures) (each (map plain_track c.in-Ok.all.tracks.items))

pub returns-in-Err-clause-told : goal.returns-in-Err-clause-told
returns-in-Err-clause-told g c = λ behind each.
    let expected = tracks_after c.args.settings.now.limits.nodes (map plain_track c.args.taken.tracks.items) (map (said_in (plain_settings c.args.settings.now)) c.args.files.now) in
    front_fails ⊤ (λ (all : Taken). map plain_track all.tracks.items) (λ (all : List PlainTrack). all) c.in-Err.earlier (expected >>= behind) expected behind refl c.in-Err.ensures
