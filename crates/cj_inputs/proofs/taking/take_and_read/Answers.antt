use Rattle.std.proofs.Common.{◌≡◌, ◌<◌, ◌≤◌, None, Some, List, map, length, refl, arith, subst, IfOk}
use Rattle.std.proofs.lemmas.Result.{err_from_is_err_and}
use Rattle.cj_io.specs.Faults.{Rose}
use Rattle.cj_track.specs.PlainTracks.{PlainTrack}
use Rattle.cj_track.specs.Tracks.{plain_track}
use Rattle.cj_inputs.specs.declared.batch.Batch.{Batch}
use Rattle.cj_inputs.specs.declared.progress.Progress.{Progress}
use Rattle.cj_inputs.specs.declared.reading.InputError.TheVariants.{Failed}
use Rattle.cj_inputs.specs.declared.taken.Taken.{Taken}
use Rattle.cj_words.specs.Settings.{plain_settings}
use Rattle.cj_inputs.specs.Batches.{AreParsed, IsBatchOf, said_in, tracks_after}
use Rattle.cj_inputs.specs.declared.batch.FileRead.{FileRead}
use Rattle.cj_inputs.proofs.BatchLemmas.{of_part, reads_wider}
use Rattle.cj_inputs.proofs.taking.take_and_read.Goals as goal

abbrev next_batch : Progress → Batch
next_batch next = next.batch

abbrev all_of : Taken → List PlainTrack
all_of all = map plain_track all.tracks.items

abbrev next_of : Progress → List PlainTrack
next_of next = map plain_track next.taken.tracks.items

pub returns-clause-taken : goal.returns-clause-taken
returns-clause-taken g c =
    let said = map (said_in (plain_settings c.args.settings.now)) c.args.files.items in
    c.with_batch.ensures.told (tracks_after c.args.settings.now.limits.nodes (map plain_track c.args.taken.tracks.items) said) (c.take_all.ensures said (subst (λ (read : List FileRead). IfOk c.parse_and_read-readings.result.0 (λ readings. AreParsed (plain_settings c.args.settings.now) read readings.items)) c.deref.ensures.value c.parse_and_read-readings.ensures.parsed))

pub returns-clause-fault : goal.returns-clause-fault
returns-clause-fault g c =
    of_part (λ (batch : Batch). batch.stop ≡ Some Failed → Rose (g.F.Folder.faults c.args.folder.now) (g.F.Folder.faults c.parse_and_read-readings.new.folder))
    next_batch c.parse_and_read-readings.result.1 c.with_batch.result c.with_batch.ensures.batch c.parse_and_read-readings.ensures.fault

pub returns-clause-told : goal.returns-clause-told
returns-clause-told g c = λ told is.
    of_part (IsBatchOf told c.args.rest.now) next_batch c.parse_and_read-readings.result.1 c.with_batch.result c.with_batch.ensures.batch (c.parse_and_read-readings.ensures.told told is)

pub returns-clause-few : goal.returns-clause-few
returns-clause-few g c =
    of_part (λ (batch : Batch). length batch.files.items ≤ length c.args.rest.now)
    next_batch c.parse_and_read-readings.result.1 c.with_batch.result c.with_batch.ensures.batch c.parse_and_read-readings.ensures.few

pub returns-clause-some : goal.returns-clause-some
returns-clause-some g c =
    of_part (λ (batch : Batch). batch.stop ≡ None → 0 < length c.args.rest.now → 0 < length batch.files.items)
    next_batch c.parse_and_read-readings.result.1 c.with_batch.result c.with_batch.ensures.batch c.parse_and_read-readings.ensures.some

pub returns-clause-count : goal.returns-clause-count
returns-clause-count g c = c.parse_and_read-readings.ensures.count

pub returns-clause-files : goal.returns-clause-files
returns-clause-files g c = c.parse_and_read-readings.ensures.files

pub returns-clause-later : goal.returns-clause-later
returns-clause-later g c = c.parse_and_read-readings.ensures.later

pub returns-in_err-taken : goal.returns-in_err-taken
returns-in_err-taken g c =
    let expected = tracks_after c.args.settings.now.limits.nodes (map plain_track c.args.taken.tracks.items) (map (said_in (plain_settings c.args.settings.now)) c.args.files.items) in
    let p = err_from_is_err_and c.from_residual.result c.from_residual.ensures.1 in
    rw (p.1, p.2)
    (record {
      taken = reads_wider ⊥ ⊥ all_of next_of c.in_err-taken.field-0.0 expected (λ none. none) c.in_err-taken.ensures;
      fault = tt;
      told = λ told is. tt;
      few = tt;
      some = tt;
      count = refl;
      files = refl;
      later = omega arith;
    })

pub returns-in_err-batch : goal.returns-in_err-batch
returns-in_err-batch g c =
    let p = err_from_is_err_and c.from_residual-in_err-batch.result c.from_residual-in_err-batch.ensures.1 in
    rw (p.1, p.2)
    (record {
      taken = tt;
      fault = tt;
      told = λ told is. tt;
      few = tt;
      some = tt;
      count = c.read_batch.ensures.count;
      files = c.read_batch.ensures.files;
      later = c.read_batch.ensures.later;
    })

pub returns-then-workers-lt2 : goal.returns-then-workers-lt2
returns-then-workers-lt2 g c = record {
  taken = c.in_ok-taken.ensures;
  fault = c.in_ok-batch.ensures.fault;
  told = c.in_ok-batch.ensures.told;
  few = c.in_ok-batch.ensures.few;
  some = c.in_ok-batch.ensures.some;
  count = c.read_batch.ensures.count;
  files = c.read_batch.ensures.files;
  later = c.read_batch.ensures.later;
}
