use Rattle.std.proofs.Common.{◌∙◌, List, Result, Err, map, refl, ap, sym, subst, arith}
use Rattle.std.proofs.lemmas.List.{drop_all}
use Rattle.std.proofs.lemmas.Result.{err_from_is_err_and}
use Rattle.cj_io.specs.Faults.{Rose}
use Rattle.cj_io.proofs.FileLemmas.{rose_since}
use Rattle.cj_track.specs.PlainTracks.{PlainTrack}
use Rattle.cj_track.specs.Tracks.{plain_track}
use Rattle.cj_track.specs.declared.track.Track.{Track}
use Rattle.cj_status.specs.declared.status.Status.{Status}
use Rattle.cj_inputs.specs.Alone.{plain_tracks, readings_alone}
use Rattle.cj_inputs.specs.declared.lone_tracks.LoneTracks.{LoneTracks}
use Rattle.cj_inputs.specs.Readings.{Reads, within_nodes}
use Rattle.cj_inputs.proofs.AloneLemmas.{file_fails, file_taken, nodes_fail, reads_calmly}
use Rattle.cj_inputs.proofs.BatchLemmas.{reads_wider}
use Rattle.cj_inputs.proofs.EndLemmas.{ok_not_err, same_cause}
use Rattle.cj_inputs.proofs.alone.read_each.Goals as goal

pub loop-entry-init : goal.loop-entry-init
loop-entry-init g c = record {
  leads = λ files told. ap (λ (tracks : List Track). readings_alone c.args.as_hermite3 c.args.limits.nodes files (map plain_track tracks) c.args.entries.now) c.in_ok-lone.ensures;
  files = refl;
  count = refl;
  later = omega arith;
}

pub loop-entry-preserved : goal.loop-entry-preserved
loop-entry-preserved g c =
    let before = c.loop-entry.invariant in
    record {
      leads = λ files told.
          file_taken c.args.as_hermite3 c.args.limits.nodes files c.loop-entry.lone.tracks.items c.in_ok-lone-2.lone.tracks.items c.args.entries.now
          c.loop-entry.entry-index c.entry-item.result c.in_ok-track.track c.loop-entry-test.true c.entry-item.is
          (c.in_ok-track.ensures.told files (before.files ∙ told)) c.in_ok-lone-2.ensures.told c.in_ok-lone-2.ensures.more
          ∙ before.leads files told;
      files = c.read_track.ensures.files ∙ before.files;
      count = c.read_track.ensures.count ∙ before.count;
      later = omega (arith, c.read_track.ensures.later, before.later);
    }

-- there are too many nodes
pub returns-in_err-lone-2 : goal.returns-in_err-lone-2
returns-in_err-lone-2 g c =
    let before = c.loop-entry.invariant in
    let read = c.in_ok-track.ensures in
    let rose = Rose (g.F.Folder.faults c.args.folder.now) (g.F.Folder.faults c.read_track.new.folder) in
    let most = c.args.limits.nodes in
    let tracks = plain_tracks c.loop-entry.lone in
    let track = plain_track c.in_ok-track.track in
    let why = c.in_err-lone-2.field-0.0 in
    let told = c.in_err-lone-2.ensures.told in
    let view : LoneTracks → PlainTrack = λ lone. track in
    let p = err_from_is_err_and c.from_residual-in_err-lone-2.result c.from_residual-in_err-lone-2.ensures.1 in
    rw (p.1, p.2) (record {
      fault = λ is. reads_calmly view (Err why) (within_nodes most tracks track) told (ap Err (same_cause is));
      told = λ files told_files.
          subst (λ (due : Result (List PlainTrack) Status). Reads rose plain_tracks (Err why) due) (before.leads files told_files)
          (nodes_fail rose view plain_tracks c.args.as_hermite3 most files tracks c.args.entries.now c.loop-entry.entry-index c.entry-item.result track why
          c.loop-entry-test.true c.entry-item.is (read.told files (before.files ∙ told_files))
          (reads_wider ⊥ rose view view why (within_nodes most tracks track) (λ none. absurd none) told));
      files = c.read_track.ensures.files ∙ before.files;
      later = omega (arith, c.read_track.ensures.later, before.later);
    })

-- a file is not read
pub returns-in_err-track : goal.returns-in_err-track
returns-in_err-track g c =
    let before = c.loop-entry.invariant in
    let first = g.F.Folder.faults c.args.folder.now in
    let last = g.F.Folder.faults c.loop-entry.folder in
    let now = g.F.Folder.faults c.read_track.new.folder in
    let since = rose_since first last now before.later in
    let why = c.in_err-track.field-0.0 in
    let p = err_from_is_err_and c.from_residual-in_err-track.result c.from_residual-in_err-track.ensures.1 in
    rw (p.1, p.2) (record {
      fault = λ is. since (c.in_err-track.ensures.fault (ap Err (same_cause is)));
      told = λ files told.
          subst (λ (due : Result (List PlainTrack) Status). Reads (Rose first now) plain_tracks (Err why) due) (before.leads files told)
          (file_fails (Rose first now) plain_track plain_tracks c.args.as_hermite3 c.args.limits.nodes files (plain_tracks c.loop-entry.lone) c.args.entries.now
          c.loop-entry.entry-index c.entry-item.result why c.loop-entry-test.true c.entry-item.is
          (reads_wider (Rose last now) (Rose first now) plain_track plain_track why _ since (c.in_err-track.ensures.told files (before.files ∙ told))));
      files = c.read_track.ensures.files ∙ before.files;
      later = omega (arith, c.read_track.ensures.later, before.later);
    })

pub returns : goal.returns
returns g c =
    let before = c.loop-entry.invariant in
    record {
      fault = ok_not_err;
      told = λ files told.
          sym (before.leads files told)
          ∙ ap (readings_alone c.args.as_hermite3 c.args.limits.nodes files (plain_tracks c.loop-entry.lone)) (drop_all c.loop-entry.entry-index c.args.entries.now c.loop-entry-test.false);
      files = before.files;
      later = before.later;
    }
