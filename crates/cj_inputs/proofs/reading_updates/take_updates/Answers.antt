use Rattle.std.proofs.Common.{◌∙◌, List, Result, Err, refl, ap, sym, subst, arith}
use Rattle.std.proofs.lemmas.List.{drop_all}
use Rattle.std.proofs.lemmas.Result.{err_from_is_err_and}
use Rattle.cj_io.specs.Faults.{Rose}
use Rattle.cj_io.proofs.FileLemmas.{rose_since}
use Rattle.cj_track.specs.PlainTracks.{PlainTrack}
use Rattle.cj_words.specs.Settings.{plain_settings}
use Rattle.cj_status.specs.declared.status.Status.{Status}
use Rattle.cj_inputs.specs.Readings.{Reads}
use Rattle.cj_inputs.specs.Updates.{update_after, updates_after}
use Rattle.cj_inputs.proofs.BatchLemmas.{reads_wider}
use Rattle.cj_inputs.proofs.EndLemmas.{ok_not_err, same_cause}
use Rattle.cj_inputs.proofs.UpdateStepLemmas.{seen, update_ends, update_leads}
use Rattle.cj_inputs.proofs.reading_updates.take_updates.Goals as goal

pub loop-entry-init : goal.loop-entry-init
loop-entry-init g c = record { leads = λ files told. refl; more = omega arith; files = refl; count = refl; later = omega arith }

pub loop-entry-preserved : goal.loop-entry-preserved
loop-entry-preserved g c =
    let before = c.loop-entry.invariant in
    record {
      leads = λ files told.
          update_leads (plain_settings c.args.settings.now) c.args.update.now files (seen c.loop-entry.taken) (seen c.in_ok-taken.taken) c.args.updates.now
          c.loop-entry.entry-index c.entry-item.result c.loop-entry-test.true c.entry-item.is (c.in_ok-taken.ensures.told files (before.files ∙ told))
          ∙ before.leads files told;
      more = omega (arith, before.more, c.in_ok-taken.ensures.more);
      files = c.take_update.ensures.files ∙ before.files;
      count = c.take_update.ensures.count ∙ before.count;
      later = omega (arith, c.take_update.ensures.later, before.later);
    }

pub returns-in_err-taken : goal.returns-in_err-taken
returns-in_err-taken g c =
    let before = c.loop-entry.invariant in
    let first = g.F.Folder.faults c.args.folder.now in
    let last = g.F.Folder.faults c.loop-entry.folder in
    let now = g.F.Folder.faults c.take_update.new.folder in
    let since = rose_since first last now before.later in
    let why = c.in_err-taken.field-0.0 in
    let settings = plain_settings c.args.settings.now in
    let update = c.args.update.now in
    let p = err_from_is_err_and c.from_residual.result c.from_residual.ensures.1 in
    rw (p.1, p.2) (record {
      fault = λ is. since (c.in_err-taken.ensures.fault (ap Err (same_cause is)));
      told = λ files told.
          subst (λ (due : Result (List PlainTrack) Status). Reads (Rose first now) seen (Err why) due) (before.leads files told)
          (update_ends (Rose first now) seen seen settings update files (seen c.loop-entry.taken) c.args.updates.now c.loop-entry.entry-index c.entry-item.result why
          c.loop-entry-test.true c.entry-item.is
          (reads_wider (Rose last now) (Rose first now) seen seen why (update_after settings update files (seen c.loop-entry.taken) c.entry-item.result) since
          (c.in_err-taken.ensures.told files (before.files ∙ told))));
      more = tt;
      count = c.take_update.ensures.count ∙ before.count;
      files = c.take_update.ensures.files ∙ before.files;
      later = omega (arith, c.take_update.ensures.later, before.later);
    })

pub returns : goal.returns
returns g c =
    let before = c.loop-entry.invariant in
    record {
      fault = ok_not_err;
      told = λ files told.
          sym (before.leads files told)
          ∙ ap (updates_after (plain_settings c.args.settings.now) c.args.update.now files (seen c.loop-entry.taken)) (drop_all c.loop-entry.entry-index c.args.updates.now c.loop-entry-test.false);
      more = before.more;
      count = before.count;
      files = before.files;
      later = before.later;
    }
