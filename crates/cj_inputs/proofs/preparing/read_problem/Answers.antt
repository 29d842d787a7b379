use Rattle.std.proofs.Common.{arith, ◌≡◌, ◌<◌, ◌∙◌, refl, subst, ap, List, [], Vec, Global, Ok, Err, length, map, get_or}
use Rattle.std.proofs.lemmas.Result.{err_from_is_err_and}
use Rattle.cj_io.specs.Faults.{Rose}
use Rattle.cj_io.specs.declared.name.Name.{Name}
use Rattle.cj_io.proofs.FileLemmas.{rose_since}
use Rattle.cj_track.specs.PlainTracks.{PlainTrack}
use Rattle.cj_track.specs.Tracks.{plain_track}
use Rattle.cj_track.specs.declared.track.Track.{Track}
use Rattle.cj_words.specs.Settings.{plain_settings}
use Rattle.cj_case.specs.Problems.{plain_problem}
use Rattle.cj_status.specs.Steps.{Gives, Stops}
use Rattle.cj_inputs.specs.Cases.{case_asked, case_of_run, within_limits, within_objects}
use Rattle.cj_inputs.specs.InputFiles.{PlainApart, apart_of, inputs_of}
use Rattle.cj_inputs.specs.ObjectAttributes.{attributes_asked, plain_attributes}
use Rattle.cj_inputs.specs.Readings.{Reads, readings_of}
use Rattle.cj_inputs.proofs.StepLemmas.{asked_of_attributes, asked_of_tracks, comes_between, entries_fail, folder_failed}
use Rattle.cj_inputs.proofs.StepLemmas.{gives_unread, gives_wider, attributes_fail, stops_unread, tracks_fail}
use Rattle.cj_inputs.specs.declared.input_files.Entry.{Entry}
use Rattle.cj_inputs.proofs.preparing.read_problem.Goals as goal

abbrev tracks_of : Vec Track Global → List PlainTrack
tracks_of tracks = map plain_track tracks.items

pub read_tracks-requires-clause-numbers : goal.read_tracks-requires-clause-numbers
read_tracks-requires-clause-numbers g c = λ lifetimes outlive k d below.
    let listed : k < length c.in_ok-entries.entries.items = subst (λ (es : List Entry). k < length es) c.deref-2.ensures.value below in
    let here = c.in_ok-entries.ensures.numbers k d listed in
    let same = ap (λ (es : List Entry). (get_or es k d).number) c.deref-2.ensures.value in
    omega (arith, here, same, c.requires.count)

pub read_attributes-requires-clause-many : goal.read_attributes-requires-clause-many
read_attributes-requires-clause-many g c = c.requires.many

pub read_attributes-requires-clause-count : goal.read_attributes-requires-clause-count
read_attributes-requires-clause-count g c = c.read_tracks.ensures.count ∙ c.requires.count

pub problem_of-requires-clause-few : goal.problem_of-requires-clause-few
problem_of-requires-clause-few g c = omega (arith, c.in_ok-tracks.ensures.many, c.deref-2.ensures.len, c.in_ok-entries.ensures.few)

pub returns-in_err-entries : goal.returns-in_err-entries
returns-in_err-entries g c =
    let asked = plain_settings c.args.settings.now in
    let names = c.args.names.now in
    let s = c.in_err-entries.field-0.0 in
    let due = within_objects asked.limits.objects (inputs_of asked.suffix (apart_of asked) names) in
    let ended = subst (λ (apart : PlainApart). Stops ⊥ s (within_objects asked.limits.objects (inputs_of asked.suffix apart names))) c.of.ensures c.in_err-entries.ensures.told in
    let p = err_from_is_err_and c.from_residual.result c.from_residual.ensures.1 in
    rw (p.1, p.2)
    (record {
      between = c.in_err-entries.ensures.between;
      read = λ is. absurd (stops_unread s due ended is);
      told = λ files told known. entries_fail _ files asked names s known ended;
      count = refl;
      files = refl;
      later = omega arith;
    })

pub returns-in_err-tracks : goal.returns-in_err-tracks
returns-in_err-tracks g c =
    let asked = plain_settings c.args.settings.now in
    let entries = c.in_ok-entries.entries.items in
    let listed = subst (λ (apart : PlainApart). within_objects asked.limits.objects (inputs_of asked.suffix apart c.args.names.now) ≡ Ok entries) c.of.ensures c.in_ok-entries.ensures.told in
    let rose = Rose (g.F.Folder.faults c.args.folder.now) (g.F.Folder.faults c.read_tracks.new.folder) in
    let why = c.in_err-tracks.field-0.0 in
    let p = err_from_is_err_and c.from_residual-in_err-tracks.result c.from_residual-in_err-tracks.ensures.1 in
    rw (p.1, p.2)
    (record {
      between = comes_between why;
      read = folder_failed why c.in_err-tracks.ensures.fault;
      told = λ files told known.
          tracks_fail rose tracks_of files asked entries why
          (subst (λ (ns : List Name). within_objects asked.limits.objects (inputs_of asked.suffix (apart_of asked) ns) ≡ Ok entries) known listed)
          (subst (λ (es : List Entry). Reads rose tracks_of (Err why) (readings_of asked files es))
          c.deref-2.ensures.value (c.in_err-tracks.ensures.told files told));
      count = c.read_tracks.ensures.count;
      files = c.read_tracks.ensures.files;
      later = c.read_tracks.ensures.later;
    })

pub returns-in_err-said : goal.returns-in_err-said
returns-in_err-said g c =
    let asked = plain_settings c.args.settings.now in
    let entries = c.in_ok-entries.entries.items in
    let listed = subst (λ (apart : PlainApart). within_objects asked.limits.objects (inputs_of asked.suffix apart c.args.names.now) ≡ Ok entries) c.of.ensures c.in_ok-entries.ensures.told in
    let es = tracks_of c.in_ok-tracks.tracks in
    let first = g.F.Folder.faults c.args.folder.now in
    let before = g.F.Folder.faults c.read_tracks.new.folder in
    let now = g.F.Folder.faults c.read_attributes.new.folder in
    let why = c.in_err-said.field-0.0 in
    let p = err_from_is_err_and c.from_residual-in_err-said.result c.from_residual-in_err-said.ensures.1 in
    rw (p.1, p.2)
    (record {
      between = comes_between why;
      read = λ is. rose_since first before now c.read_tracks.ensures.later (folder_failed why c.in_err-said.ensures.fault is);
      told = λ files told known.
          let taken = subst (λ (ns : List Name). within_objects asked.limits.objects (inputs_of asked.suffix (apart_of asked) ns) ≡ Ok entries) known listed in
          let read = subst (λ (some : List Entry). readings_of asked files some ≡ Ok es)
          c.deref-2.ensures.value (c.in_ok-tracks.ensures.told files told) in
          attributes_fail (Rose before now) (Rose first now) plain_attributes files asked es why (rose_since first before now c.read_tracks.ensures.later)
          (asked_of_tracks files asked entries es taken read) (subst (λ (ts : List Track). Reads (Rose before now) plain_attributes (Err why) (attributes_asked (map plain_track ts) [] files asked)) c.deref-3.ensures.value
          (c.in_err-said.ensures.told files (c.read_tracks.ensures.files ∙ told) known));
      count = c.read_attributes.ensures.count ∙ c.read_tracks.ensures.count;
      files = c.read_attributes.ensures.files ∙ c.read_tracks.ensures.files;
      later = omega (arith, c.read_attributes.ensures.later, c.read_tracks.ensures.later);
    })

pub returns : goal.returns
returns g c =
    let asked = plain_settings c.args.settings.now in
    let entries = c.in_ok-entries.entries.items in
    let listed = subst (λ (apart : PlainApart). within_objects asked.limits.objects (inputs_of asked.suffix apart c.args.names.now) ≡ Ok entries) c.of.ensures c.in_ok-entries.ensures.told in
    let es = tracks_of c.in_ok-tracks.tracks in
    let said = plain_attributes c.in_ok-said.said in
    let made = c.problem_of.result in
    let due = within_limits asked.limits.object_slots (case_of_run asked es said) in
    let gives : Gives ⊥ plain_problem made due = c.problem_of.ensures.told in
    record {
      between = c.problem_of.ensures.between;
      read = λ is. absurd (gives_unread plain_problem made due gives is);
      told = λ files told known.
          let taken = subst (λ (ns : List Name). within_objects asked.limits.objects (inputs_of asked.suffix (apart_of asked) ns) ≡ Ok entries) known listed in
          let read = subst (λ (some : List Entry). readings_of asked files some ≡ Ok es)
          c.deref-2.ensures.value (c.in_ok-tracks.ensures.told files told) in
          let is = asked_of_attributes files asked es said (asked_of_tracks files asked entries es taken read)
          (subst (λ (ts : List Track). attributes_asked (map plain_track ts) [] files asked ≡ Ok said) c.deref-3.ensures.value (c.in_ok-said.ensures.told files (c.read_tracks.ensures.files ∙ told) known)) in
          gives_wider ⊥ _ plain_problem made (case_asked files asked) (λ none. absurd none) (rw is gives);
      count = c.read_attributes.ensures.count ∙ c.read_tracks.ensures.count;
      files = c.read_attributes.ensures.files ∙ c.read_tracks.ensures.files;
      later = omega (arith, c.read_attributes.ensures.later, c.read_tracks.ensures.later);
    }
