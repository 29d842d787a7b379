use Rattle.std.proofs.Common.{arith, ◌≡◌, ◌∙◌, subst, List, Vec, Global, Ok, Err, length, map}
use Rattle.std.proofs.lemmas.List.{length-map}
use Rattle.std.proofs.lemmas.Result.{err_from_is_err_and}
use Rattle.cj_io.specs.Faults.{Rose}
use Rattle.cj_io.proofs.FileLemmas.{rose_since}
use Rattle.cj_track.specs.PlainTracks.{PlainTrack}
use Rattle.cj_track.specs.Tracks.{plain_track}
use Rattle.cj_track.specs.declared.track.Track.{Track}
use Rattle.cj_words.specs.Settings.{plain_settings}
use Rattle.cj_inputs.specs.Readings.{Reads}
use Rattle.cj_inputs.specs.Updates.{plain_updated, read_as, updates_after}
use Rattle.cj_inputs.proofs.StepLemmas.{comes_between, folder_failed, gives_wider}
use Rattle.cj_inputs.proofs.UpdateStepLemmas.{base_fails, read_of_both, seen, updates_fail}
use Rattle.cj_inputs.proofs.reading_updates.read_updated.Goals as goal

abbrev tracks_of : Vec Track Global → List PlainTrack
tracks_of tracks = map plain_track tracks.items

pub returns-in_err-base : goal.returns-in_err-base
returns-in_err-base g c =
    let rose = Rose (g.F.Folder.faults c.args.folder.now) (g.F.Folder.faults c.read_tracks.new.folder) in
    let why = c.in_err-base.field-0.0 in
    let p = err_from_is_err_and c.from_residual.result c.from_residual.ensures.1 in
    rw (p.1, p.2)
    (record {
      between = comes_between why;
      read = folder_failed why c.in_err-base.ensures.fault;
      told = λ files told.
          base_fails rose tracks_of files (plain_settings c.args.settings.now) c.args.update.now c.args.entries.now c.args.updates.now why (c.in_err-base.ensures.told files told);
      count = c.read_tracks.ensures.count;
      files = c.read_tracks.ensures.files;
      later = c.read_tracks.ensures.later;
    })

pub returns-in_err-all : goal.returns-in_err-all
returns-in_err-all g c =
    let first = g.F.Folder.faults c.args.folder.now in
    let before = g.F.Folder.faults c.read_tracks.new.folder in
    let now = g.F.Folder.faults c.take_updates.new.folder in
    let since = rose_since first before now c.read_tracks.ensures.later in
    let why = c.in_err-all.field-0.0 in
    let settings = plain_settings c.args.settings.now in
    let base = tracks_of c.in_ok-base.base in
    let p = err_from_is_err_and c.from_residual-in_err-all.result c.from_residual-in_err-all.ensures.1 in
    rw (p.1, p.2)
    (record {
      between = comes_between why;
      read = λ is. since (folder_failed why c.in_err-all.ensures.fault is);
      told = λ files told.
          updates_fail (Rose before now) (Rose first now) seen files settings c.args.update.now c.args.entries.now c.args.updates.now base why since (c.in_ok-base.ensures.told files told)
          (subst (λ (ts : List Track). Reads (Rose before now) seen (Err why) (updates_after settings c.args.update.now files (map plain_track ts) c.args.updates.now)) c.of.ensures
          (c.in_err-all.ensures.told files (c.read_tracks.ensures.files ∙ told)));
      count = c.take_updates.ensures.count ∙ c.read_tracks.ensures.count;
      files = c.take_updates.ensures.files ∙ c.read_tracks.ensures.files;
      later = omega (arith, c.take_updates.ensures.later, c.read_tracks.ensures.later);
    })

pub returns : goal.returns
returns g c =
    let settings = plain_settings c.args.settings.now in
    let update = c.args.update.now in
    let entries = c.args.entries.now in
    let updates = c.args.updates.now in
    let base = tracks_of c.in_ok-base.base in
    let made = c.update_tracks.result in
    let unread = c.update_tracks.ensures.unread in
    record {
      between = c.update_tracks.ensures.between;
      read = λ is. absurd (unread is);
      told = λ files told.
          let more = subst (λ (ts : List Track). updates_after settings update files (map plain_track ts) updates ≡ Ok (seen c.in_ok-all.all)) c.of.ensures
          (c.in_ok-all.ensures.told files (c.read_tracks.ensures.files ∙ told)) in
          let is = c.in_ok-base.ensures.told files told in
          let many : length base ≡ c.len-many.result = omega (arith, c.len-many.ensures, length-map c.in_ok-base.base.items plain_track, c.in_ok-base.base.ok.0) in
          gives_wider ⊥ _ plain_updated made (read_as files settings update entries updates) (λ none. absurd none)
          (rw (read_of_both files settings update entries updates base (seen c.in_ok-all.all) is more) (c.update_tracks.ensures.told files entries base many is more));
      count = c.take_updates.ensures.count ∙ c.read_tracks.ensures.count;
      files = c.take_updates.ensures.files ∙ c.read_tracks.ensures.files;
      later = omega (arith, c.take_updates.ensures.later, c.read_tracks.ensures.later);
    }
