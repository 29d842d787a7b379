use Rattle.std.proofs.Common.{ℕ, ap, subst, sym, Err, List, Result, map, Vec, Global}
use Rattle.std.proofs.lemmas.Result.{err_from_is_err_and}
use Rattle.cj_io.specs.Faults.{Rose}
use Rattle.cj_io.specs.Files.{bytes_of}
use Rattle.cj_kvn.specs.Faults.{Gives}
use Rattle.cj_sizes.specs.Primaries.{reading}
use Rattle.cj_status.specs.declared.status.Status.{Status}
use Rattle.cj_inputs.specs.ObjectPrimaries.{refused_primaries}
use Rattle.cj_inputs.specs.Readings.{Reads}
use Rattle.cj_inputs.proofs.AloneLemmas.{reads_anyway, reads_calmly}
use Rattle.cj_inputs.proofs.EndLemmas.{same_cause}
use Rattle.cj_inputs.proofs.PrimaryLemmas.{Ids, lent, primaries_read, primaries_unread}
use Rattle.cj_inputs.proofs.object_primaries.named_in.Goals as goal

abbrev ids_in : Vec (List ℕ) Global → Ids
ids_in ids = ids.items

abbrev whole : Vec ℕ Global → List ℕ
whole bytes = bytes.items

pub returns-in_err-bytes : goal.returns-in_err-bytes
returns-in_err-bytes g c =
    let why = c.in_err-bytes.field-0.0 in
    let p = err_from_is_err_and c.from_residual.result c.from_residual.ensures.1 in
    rw (p.1, p.2)
    (record {
      fault = λ is. c.in_err-bytes.ensures.fault (ap Err (same_cause is));
      told = λ files told. primaries_unread _ whole ids_in (map lent c.args.known.now) c.args.name.now (bytes_of files c.args.number) why (c.in_err-bytes.ensures.told files told);
      count = c.read_file.ensures.count;
      files = c.read_file.ensures.files;
      later = c.read_file.ensures.later;
    })

pub returns : goal.returns
returns g c =
    let rose = Rose (g.F.Folder.faults c.args.folder.now) (g.F.Folder.faults c.read_file.new.folder) in
    let known = map lent c.args.known.now in
    let name = c.args.name.now in
    let bytes = c.in_ok-bytes.bytes.items in
    let gives : Gives ids_in c.read_primaries-read.result (reading known bytes) =
    subst (λ (all : List ℕ). Gives ids_in c.read_primaries-read.result (reading known all)) c.deref.ensures.value c.read_primaries-read.ensures.value in
    let reads = c.named_by.ensures (reading known bytes) gives in
    let due = refused_primaries name (reading known bytes) in
    record {
      fault = reads_calmly ids_in c.named_by.result due reads;
      told = λ files told.
          subst (λ (d : Result Ids Status). Reads rose ids_in c.named_by.result d) (sym (primaries_read known name (bytes_of files c.args.number) bytes (c.in_ok-bytes.ensures.told files told)))
          (reads_anyway rose ids_in c.named_by.result due reads);
      count = c.read_file.ensures.count;
      files = c.read_file.ensures.files;
      later = c.read_file.ensures.later;
    }
