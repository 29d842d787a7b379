use Rattle.std.proofs.Common.{◌∙◌, ◌+◌, ◌-◌, ◌<◌, List, Result, Some, ap, refl, map, take, drop, length, subst, arith}
use Rattle.std.proofs.lemmas.List.Elements.{All-drop, All-take}
use Rattle.cj_track.specs.Tracks.{plain_track}
use Rattle.cj_words.specs.Settings.{PlainSettings, plain_settings}
use Rattle.cj_inputs.specs.declared.batch.FileRead.{FileRead}
use Rattle.cj_inputs.specs.declared.input_files.Entry.{Entry}
use Rattle.cj_inputs.specs.declared.progress.Progress.{Progress}
use Rattle.cj_inputs.specs.declared.reading.InputError.{InputError}
use Rattle.cj_inputs.specs.Batches.{IsFirstCause, said_in, tracks_after}
use Rattle.cj_inputs.specs.Readings.{Reads}
use Rattle.cj_inputs.proofs.EndLemmas.{same_cause}
use Rattle.cj_inputs.proofs.BatchLemmas.{all_left, batch_goes_on, batch_stops, more_taken, next_fits}
use Rattle.cj_inputs.proofs.taking.go_on.Goals as goal

-- this comes of these files that were read
abbrev Takes : PlainSettings → Progress → Result Progress InputError → List FileRead → Type 0
Takes settings progress r read =
    Reads ⊥ (λ (next : Progress). map plain_track next.taken.tracks.items) r (tracks_after settings.limits.nodes (map plain_track progress.taken.tracks.items) (map (said_in settings) read))

pub returns-in-Some : goal.returns-in-Some
returns-in-Some g c = record {
  stopped = λ is. c.in-Some.is ∙ ap Some (c.first_cause.ensures.failed (same_cause is));
  fault = tt;
  told = λ files told way.
      let progress = c.args.progress in
      let first = subst (λ (read : List FileRead). IsFirstCause c.args.settings.now.limits.nodes c.in-Some.why (map plain_track progress.taken.tracks.items) (map (said_in (plain_settings c.args.settings.now)) read)
      c.first_cause.result)
      c.deref.ensures.value c.first_cause.ensures.told in
      batch_stops (plain_settings c.args.settings.now) files c.args.entries.now progress c.in-Some.why c.first_cause.result way c.in-Some.is first;
  more = tt;
  fits = tt;
  count = refl;
  files = refl;
  later = omega arith;
}

pub returns-clause-stopped : goal.returns-clause-stopped
returns-clause-stopped g c = λ is.
    absurd (subst (λ (r : Result Progress InputError). Takes (plain_settings c.args.settings.now) c.args.progress r c.args.progress.batch.files.items) is c.take_and_read.ensures.taken)

pub returns-clause-fault : goal.returns-clause-fault
returns-clause-fault g c = c.take_and_read.ensures.fault

pub returns-clause-count : goal.returns-clause-count
returns-clause-count g c = c.take_and_read.ensures.count

pub returns-clause-files : goal.returns-clause-files
returns-clause-files g c = c.take_and_read.ensures.files

pub returns-clause-later : goal.returns-clause-later
returns-clause-later g c = c.take_and_read.ensures.later

pub take_and_read-requires-clause-numbers : goal.take_and_read-requires-clause-numbers
take_and_read-requires-clause-numbers g c = λ lifetimes outlive.
    let entries = c.args.entries.now in
    let k = c.len.result + c.len-2.result in
    let within : Entry → Type 0 = λ entry. entry.number < g.F.Folder.count c.args.folder.now in
    All-take within (length entries - k) (drop k entries) (All-drop within k entries c.requires.numbers)

pub returns-clause-told : goal.returns-clause-told
returns-clause-told g c = λ files told way.
    let entries = c.args.entries.now in
    let k = c.len.result + c.len-2.result in
    let progress = c.args.progress in
    let taken = c.take_and_read.ensures.taken in
    batch_goes_on (plain_settings c.args.settings.now) files entries (take (length entries - k) (drop k entries)) progress c.take_and_read.result way taken
    (all_left entries k (length progress.taken.tracks.items + length progress.batch.files.items) (omega (arith, c.len.ensures, c.len-2.ensures))) (c.take_and_read.ensures.told files told)

pub returns-clause-fits : goal.returns-clause-fits
returns-clause-fits g c =
    let entries = c.args.entries.now in
    let k = c.len.result + c.len-2.result in
    let progress = c.args.progress in
    let taken = c.take_and_read.ensures.taken in
    next_fits (plain_settings c.args.settings.now) entries (take (length entries - k) (drop k entries)) progress c.take_and_read.result c.requires.fits taken
    (all_left entries k (length progress.taken.tracks.items + length progress.batch.files.items) (omega (arith, c.len.ensures, c.len-2.ensures)))
    c.take_and_read.ensures.few c.take_and_read.ensures.some

pub returns-clause-more : goal.returns-clause-more
returns-clause-more g c =
    let progress = c.args.progress in
    let taken = c.take_and_read.ensures.taken in
    more_taken (plain_settings c.args.settings.now) progress c.take_and_read.result taken (c.requires.fits.some c.in_default.is c.requires.left)
