use Rattle.std.proofs.Common.{◌≡◌, ◌∙◌, ◌<◌, List, Result, Ok, Err, [], length, get_or, ap, sym, subst, arith}
use Rattle.std.proofs.lemmas.Result.{err_from_is_err_and}
use Rattle.cj_base.specs.Limits.{plain_limits}
use Rattle.cj_io.specs.Faults.{Rose}
use Rattle.cj_io.specs.declared.folder.FolderError.TheVariants.{Failed}
use Rattle.cj_io.specs.declared.name.Name.{Name}
use Rattle.cj_io.proofs.FileLemmas.{rose_since}
use Rattle.cj_track.specs.PlainTracks.{PlainTrack}
use Rattle.cj_words.specs.Commands.{plain_thinning}
use Rattle.cj_status.specs.declared.status.Status.{Status}
use Rattle.cj_status.specs.Steps.{Stops}
use Rattle.cj_inputs.specs.declared.input_files.Entry.{Entry}
use Rattle.cj_inputs.specs.Alone.{plain_tracks, readings_alone}
use Rattle.cj_inputs.specs.Cases.{within_objects}
use Rattle.cj_inputs.specs.Errors.{input_status}
use Rattle.cj_inputs.specs.InputFiles.{PlainApart, inputs_of, none_apart}
use Rattle.cj_inputs.specs.Readings.{Reads}
use Rattle.cj_inputs.proofs.AloneLemmas.{lone_entries, lone_entries_fail}
use Rattle.cj_inputs.proofs.BatchLemmas.{reads_wider}
use Rattle.cj_inputs.proofs.EndLemmas.{ok_not_err}
use Rattle.cj_inputs.proofs.StepLemmas.{comes_between, folder_between, folder_failed, folder_stops, input_ends, listing_failed, stops_unread}
use Rattle.cj_inputs.proofs.alone.read_alone.Goals as goal

pub read_each-requires : goal.read_each-requires
read_each-requires g c = λ k d below.
    let listed : k < length c.in_ok-entries.entries.items = subst (λ (es : List Entry). k < length es) c.deref-4.ensures.value below in
    let here = c.in_ok-entries.ensures.numbers k d listed in
    let same = ap (λ (es : List Entry). (get_or es k d).number) c.deref-4.ensures.value in
    let named = ap (λ (ns : List Name). length ns) c.deref.ensures.value in
    omega (arith, here, same, named, c.in_ok-names.ensures.count)

-- the folder is not listed
pub returns-in_err-names : goal.returns-in_err-names
returns-in_err-names g c =
    let e = c.in_err-names.field-0.0 in
    let rose = Rose (g.F.Folder.faults c.args.folder.now) (g.F.Folder.faults c.names.new.self) in
    let failed : e ≡ Failed → rose = λ is. c.in_err-names.ensures.failed (ap Err is) in
    let p = err_from_is_err_and c.from_residual.result c.from_residual.ensures.1 in
    rw (p.1, p.2) (record {
      between = folder_between e;
      read = listing_failed e failed;
      told = λ files told. folder_stops rose e _ failed;
      files = c.names.ensures.files;
      later = c.names.ensures.later;
    })

-- there are too many files
pub returns-in_err-entries : goal.returns-in_err-entries
returns-in_err-entries g c =
    let thinning = plain_thinning c.args.thinning.now in
    let limits = plain_limits c.args.limits in
    let s = c.in_err-entries.field-0.0 in
    let due = within_objects limits.objects (inputs_of thinning.suffix none_apart c.deref.result.now) in
    let ended = subst (λ (apart : PlainApart). Stops ⊥ s (within_objects limits.objects (inputs_of thinning.suffix apart c.deref.result.now))) c.none.ensures c.in_err-entries.ensures.told in
    let p = err_from_is_err_and c.from_residual-in_err-entries.result c.from_residual-in_err-entries.ensures.1 in
    rw (p.1, p.2) (record {
      between = c.in_err-entries.ensures.between;
      read = λ is. absurd (stops_unread s due ended is);
      told = λ files told.
          lone_entries_fail _ limits files thinning c.deref.result.now s (c.deref.ensures.value ∙ c.in_ok-names.ensures.told files told) ended;
      files = c.names.ensures.files;
      later = c.names.ensures.later;
    })

-- a file is not read
pub returns-in_err-lone : goal.returns-in_err-lone
returns-in_err-lone g c =
    let thinning = plain_thinning c.args.thinning.now in
    let limits = plain_limits c.args.limits in
    let entries = c.in_ok-entries.entries.items in
    let listed = subst (λ (apart : PlainApart). within_objects limits.objects (inputs_of thinning.suffix apart c.deref.result.now) ≡ Ok entries) c.none.ensures c.in_ok-entries.ensures.told in
    let first = g.F.Folder.faults c.args.folder.now in
    let last = g.F.Folder.faults c.names.new.self in
    let now = g.F.Folder.faults c.read_each.new.folder in
    let since = rose_since first last now c.names.ensures.later in
    let why = c.in_err-lone.field-0.0 in
    let p = err_from_is_err_and c.from_residual-in_err-lone.result c.from_residual-in_err-lone.ensures.1 in
    rw (p.1, p.2) (record {
      between = comes_between why;
      read = λ is. since (folder_failed why c.in_err-lone.ensures.fault is);
      told = λ files told.
          let asked = lone_entries limits files thinning c.deref.result.now entries (c.deref.ensures.value ∙ c.in_ok-names.ensures.told files told) listed in
          let due = readings_alone thinning.as_hermite3 limits.nodes files [] entries in
          let read = subst (λ (some : List Entry). Reads (Rose last now) plain_tracks (Err why) (readings_alone thinning.as_hermite3 limits.nodes files [] some))
          c.deref-4.ensures.value (c.in_err-lone.ensures.told files (c.names.ensures.files ∙ told)) in
          subst (λ (d : Result (List PlainTrack) Status). Stops (Rose first now) (input_status why) d) (sym asked)
          (input_ends (Rose first now) plain_tracks why due (reads_wider (Rose last now) (Rose first now) plain_tracks plain_tracks why due since read));
      files = c.read_each.ensures.files ∙ c.names.ensures.files;
      later = omega (arith, c.read_each.ensures.later, c.names.ensures.later);
    })

pub returns : goal.returns
returns g c =
    let thinning = plain_thinning c.args.thinning.now in
    let limits = plain_limits c.args.limits in
    let entries = c.in_ok-entries.entries.items in
    let listed = subst (λ (apart : PlainApart). within_objects limits.objects (inputs_of thinning.suffix apart c.deref.result.now) ≡ Ok entries) c.none.ensures c.in_ok-entries.ensures.told in
    record {
      between = tt;
      read = ok_not_err;
      told = λ files told.
          lone_entries limits files thinning c.deref.result.now entries (c.deref.ensures.value ∙ c.in_ok-names.ensures.told files told) listed
          ∙ subst (λ (some : List Entry). readings_alone thinning.as_hermite3 limits.nodes files [] some ≡ Ok (plain_tracks c.in_ok-lone.lone))
          c.deref-4.ensures.value (c.in_ok-lone.ensures.told files (c.names.ensures.files ∙ told));
      files = c.read_each.ensures.files ∙ c.names.ensures.files;
      later = omega (arith, c.read_each.ensures.later, c.names.ensures.later);
    }
