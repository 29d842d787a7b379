use Rattle.std.proofs.Common.{vec_len, ◌≡◌, ◌∙◌, ◌≤◌, ℕ, [], ◌∷◌, ◌++◌, List, Result, Vec, Global, Ok, Err, length, map, ap, sym, subst, arith}
use Rattle.std.proofs.lemmas.List.{length-append}
use Rattle.std.proofs.lemmas.Result.{err_from_is_err_and}
use Rattle.std.specs.Prelude.{IfOk}
use Rattle.cj_io.specs.Faults.{Rose}
use Rattle.cj_io.specs.Files.{bytes_of}
use Rattle.cj_oem.specs.Reading.{reading}
use Rattle.cj_track.specs.PlainTracks.{PlainTrack}
use Rattle.cj_track.specs.Tracks.{plain_track}
use Rattle.cj_track.specs.declared.track.Track.{Track}
use Rattle.cj_words.specs.Settings.{plain_settings}
use Rattle.cj_inputs.specs.declared.reading.InputError.{InputError}
use Rattle.cj_inputs.specs.declared.taken.Taken.{Taken}
use Rattle.cj_inputs.specs.Readings.{Reads, checked_after, refused_of, within_bytes}
use Rattle.cj_inputs.specs.Trims.{left_said, trims_of}
use Rattle.cj_inputs.specs.Updates.{updated_name}
use Rattle.cj_inputs.proofs.AloneLemmas.{reads_calmly}
use Rattle.cj_inputs.proofs.TrimLemmas.{left_ok}
use Rattle.cj_inputs.proofs.EndLemmas.{not_failed, ok_not_err, same_cause}
use Rattle.cj_inputs.proofs.UpdateStepLemmas.{no_bytes, seen, some_bytes, update_empty, update_refused, update_taken, update_unread}
use Rattle.cj_inputs.proofs.reading_updates.take_update.Goals as goal

abbrev whole : Vec ℕ Global → List ℕ
whole bytes = bytes.items

pub returns-in_err-bytes : goal.returns-in_err-bytes
returns-in_err-bytes g c =
    let entry = c.args.entry.now in
    let rose = Rose (g.F.Folder.faults c.args.folder.now) (g.F.Folder.faults c.read_file.new.folder) in
    let why = c.in_err-bytes.field-0.0 in
    let p = err_from_is_err_and c.from_residual.result c.from_residual.ensures.1 in
    rw (p.1, p.2) (record {
      fault = λ is. c.in_err-bytes.ensures.fault (ap Err (same_cause is));
      told = λ files told.
          update_unread rose whole seen (plain_settings c.args.settings.now) c.args.update.now files (seen c.args.taken) entry why
          (subst (λ (name : List ℕ). Reads rose whole (Err why) (within_bytes name (bytes_of files entry.number))) c.as_slice-name.ensures (c.in_err-bytes.ensures.told files told));
      more = tt;
      count = c.read_file.ensures.count;
      files = c.read_file.ensures.files;
      later = c.read_file.ensures.later;
    })

pub returns-then-is_empty : goal.returns-then-is_empty
returns-then-is_empty g c =
    let entry = c.args.entry.now in
    record {
      fault = ok_not_err;
      told = λ files told.
          update_empty (plain_settings c.args.settings.now) c.args.update.now files (seen c.args.taken) entry c.in_ok-bytes.bytes.items
          (subst (λ (name : List ℕ). within_bytes name (bytes_of files entry.number) ≡ Ok c.in_ok-bytes.bytes.items) c.as_slice-name.ensures (c.in_ok-bytes.ensures.told files told))
          (no_bytes c.is_empty.result (vec_len c.in_ok-bytes.bytes) c.in_ok-bytes.bytes.items c.is_empty.ensures c.if-is_empty.true c.in_ok-bytes.bytes.ok.0);
      more = omega arith;
      count = c.read_file.ensures.count;
      files = c.read_file.ensures.files;
      later = c.read_file.ensures.later;
    }

pub returns-in_err-whole : goal.returns-in_err-whole
returns-in_err-whole g c =
    let entry = c.args.entry.now in
    let settings = plain_settings c.args.settings.now in
    let update = c.args.update.now in
    let items = c.in_ok-bytes.bytes.items in
    let rose = Rose (g.F.Folder.faults c.args.folder.now) (g.F.Folder.faults c.read_file.new.folder) in
    let why = c.in_err-whole.field-0.0 in
    let said = subst (λ (bytes : List ℕ). Reads ⊥ plain_track (Err why) (refused_of c.as_slice-name.result.now (reading c.updated_name-read.result.now bytes settings.as_hermite3)))
    c.deref.ensures.value c.in_err-whole.ensures.value in
    let named = subst (λ (name : List ℕ). Reads ⊥ plain_track (Err why) (refused_of name (reading c.updated_name-read.result.now items settings.as_hermite3))) c.as_slice-name.ensures said in
    let read = c.updated_name-read.ensures ∙ ap (updated_name update) c.as_slice-name.ensures in
    let here = subst (λ (name : List ℕ). Reads ⊥ plain_track (Err why) (refused_of entry.name (reading name items settings.as_hermite3))) read named in
    let p = err_from_is_err_and c.from_residual-in_err-whole.result c.from_residual-in_err-whole.ensures.1 in
    rw (p.1, p.2) (record {
      fault = λ is. reads_calmly plain_track (Err why) (refused_of entry.name (reading (updated_name update entry.name) items settings.as_hermite3)) here (ap Err (same_cause is));
      told = λ files told.
          update_refused rose seen settings update files (seen c.args.taken) entry items why
          (subst (λ (name : List ℕ). within_bytes name (bytes_of files entry.number) ≡ Ok items) c.as_slice-name.ensures (c.in_ok-bytes.ensures.told files told)) (some_bytes c.is_empty.result (vec_len c.in_ok-bytes.bytes) items c.is_empty.ensures c.if-is_empty.false c.in_ok-bytes.bytes.ok.0) here;
      more = tt;
      count = c.read_file.ensures.count;
      files = c.read_file.ensures.files;
      later = c.read_file.ensures.later;
    })

pub returns-in_err-track : goal.returns-in_err-track
returns-in_err-track g c =
    let p = err_from_is_err_and c.from_residual-in_err-track.result c.from_residual-in_err-track.ensures.1 in
    rw (p.1, p.2)
    (record {
      fault = not_failed _ tt;
      told = λ files told. tt;
      more = tt;
      count = c.read_file.ensures.count;
      files = c.read_file.ensures.files;
      later = c.read_file.ensures.later;
    })

pub returns : goal.returns
returns g c =
    let entry = c.args.entry.now in
    let settings = plain_settings c.args.settings.now in
    let update = c.args.update.now in
    let items = c.in_ok-bytes.bytes.items in
    let track = c.in_ok-track.track in
    let result = c.with_update.result in
    let rose = Rose (g.F.Folder.faults c.args.folder.now) (g.F.Folder.faults c.read_file.new.folder) in
    let before = c.args.taken.tracks.items in
    let whole : refused_of entry.name (reading (updated_name update entry.name) items settings.as_hermite3) ≡ Ok (plain_track c.in_ok-whole.whole) =
    ap (λ (name : List ℕ). refused_of name (reading (updated_name update entry.name) items settings.as_hermite3)) (sym c.as_slice-name.ensures)
    ∙ ap (λ (name : List ℕ). refused_of c.as_slice-name.result.now (reading name items settings.as_hermite3)) (sym (c.updated_name-read.ensures ∙ ap (updated_name update) c.as_slice-name.ensures))
    ∙ ap (λ (bytes : List ℕ). refused_of c.as_slice-name.result.now (reading c.updated_name-read.result.now bytes settings.as_hermite3)) (sym c.deref.ensures.value)
    ∙ c.in_ok-whole.ensures.value in
    let said : left_said (trims_of settings) (refused_of entry.name (reading (updated_name update entry.name) items settings.as_hermite3)) ≡ Ok (plain_track track) =
    left_ok (trims_of settings) (refused_of entry.name (reading (updated_name update entry.name) items settings.as_hermite3)) (plain_track c.in_ok-whole.whole) whole
    ∙ ap (λ (e : PlainTrack). Ok e) (sym c.in_ok-track.ensures) in
    let checked = subst (λ (name : List ℕ). Reads ⊥ (λ (taken : Taken). plain_track track) result (checked_after settings.limits.nodes (map plain_track before) name (plain_track track))) c.as_slice-name.ensures
    c.with_update.ensures.told in
    record {
      fault = reads_calmly (λ (taken : Taken). plain_track track) result (checked_after settings.limits.nodes (map plain_track before) entry.name (plain_track track)) checked;
      told = λ files told.
          update_taken rose settings update files before entry items track result
          (subst (λ (name : List ℕ). within_bytes name (bytes_of files entry.number) ≡ Ok items) c.as_slice-name.ensures (c.in_ok-bytes.ensures.told files told)) (some_bytes c.is_empty.result (vec_len c.in_ok-bytes.bytes) items c.is_empty.ensures c.if-is_empty.false c.in_ok-bytes.bytes.ok.0) said checked c.with_update.ensures.more;
      more = more_of result before track c.with_update.ensures.more;
      count = c.read_file.ensures.count;
      files = c.read_file.ensures.files;
      later = c.read_file.ensures.later;
    }
  where
    more_of : (r : Result Taken InputError) (before : List Track) (track : Track) → IfOk r (λ taken. taken.tracks.items ≡ before ++ track ∷ []) → IfOk r (λ taken. length before ≤ length taken.tracks.items)
    more_of (Ok taken) before track is = omega (arith, ap (λ (ts : List Track). length ts) is, length-append before (track ∷ []))
    more_of (Err why) before track is = tt
