use Rattle.std.proofs.Common.{◌≡◌, ℕ, List, Result, Ok, Err, Vec, Global, ap, sym, subst}
use Rattle.std.proofs.lemmas.Result.{err_from_is_err_and}
use Rattle.cj_io.specs.Faults.{Rose}
use Rattle.cj_io.specs.Files.{bytes_of}
use Rattle.cj_track.specs.PlainTracks.{PlainTrack}
use Rattle.cj_track.specs.Tracks.{plain_track}
use Rattle.cj_status.specs.declared.status.Status.{Status}
use Rattle.cj_inputs.specs.Batches.{said_by}
use Rattle.cj_inputs.specs.Readings.{Reads, within_bytes}
use Rattle.cj_inputs.specs.declared.batch.FileRead.{FileRead}
use Rattle.cj_inputs.proofs.AloneLemmas.{bytes_fail, reading_said, reads_anyway, reads_calmly}
use Rattle.cj_inputs.proofs.EndLemmas.{same_cause}
use Rattle.cj_inputs.proofs.alone.read_track.Goals as goal

abbrev whole : Vec ℕ Global → List ℕ
whole bytes = bytes.items

pub returns-in_err-bytes : goal.returns-in_err-bytes
returns-in_err-bytes g c =
    let entry = c.args.entry.now in
    let rose = Rose (g.F.Folder.faults c.args.folder.now) (g.F.Folder.faults c.read_file.new.folder) in
    let why = c.in_err-bytes.field-0.0 in
    let p = err_from_is_err_and c.from_residual.result c.from_residual.ensures.1 in
    rw (p.1, p.2) (record {
      fault = λ is. c.in_err-bytes.ensures.fault (ap Err (same_cause is));
      told = λ files told.
          bytes_fail rose whole plain_track c.args.as_hermite3 entry.name (bytes_of files entry.number) why
          (subst (λ (name : List ℕ). Reads rose whole (Err why) (within_bytes name (bytes_of files entry.number))) c.as_slice-name.ensures (c.in_err-bytes.ensures.told files told));
      count = c.read_file.ensures.count;
      files = c.read_file.ensures.files;
      later = c.read_file.ensures.later;
    })

pub returns : goal.returns
returns g c =
    let entry = c.args.entry.now in
    let rose = Rose (g.F.Folder.faults c.args.folder.now) (g.F.Folder.faults c.read_file.new.folder) in
    let file : FileRead = record { name = c.as_slice-name.result; bytes = c.in_ok-bytes.bytes; small = c.in_ok-bytes.ensures.small } in
    let said = said_by c.args.as_hermite3 file in
    record {
      fault = reads_calmly plain_track c.parse_file.result said c.parse_file.ensures.value;
      told = λ files told.
          subst (λ (due : Result PlainTrack Status). Reads rose plain_track c.parse_file.result due)
          (sym (reading_said c.args.as_hermite3 files entry file (record {
            name = c.as_slice-name.ensures;
            bytes = subst (λ (name : List ℕ). within_bytes name (bytes_of files entry.number) ≡ Ok c.in_ok-bytes.bytes.items) c.as_slice-name.ensures (c.in_ok-bytes.ensures.told files told);
          })))
          (reads_anyway rose plain_track c.parse_file.result said c.parse_file.ensures.value);
      count = c.read_file.ensures.count;
      files = c.read_file.ensures.files;
      later = c.read_file.ensures.later;
    }
