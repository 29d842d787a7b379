use Rattle.std.proofs.Common.{◌≡◌, ◌∙◌, ℕ, refl, sym, ap, Ok, Err, List, Result, Vec, Global}
use Rattle.std.proofs.lemmas.Result.{err_from_is_err_and}
use Rattle.cj_io.specs.Files.{bytes_of}
use Rattle.cj_sizes.specs.Reading.{Fault, reading}
use Rattle.cj_sizes.specs.Sizes.{Size, sizes_of}
use Rattle.cj_sizes.specs.declared.size_line.SizeLine.{SizeLine}
use Rattle.cj_inputs.specs.ObjectSizes.{refused_sizes, sizes_of_file}
use Rattle.cj_inputs.specs.Readings.{Reads, within_bytes}
use Rattle.cj_inputs.specs.declared.reading.InputError.{InputError}
use Rattle.cj_inputs.proofs.EndLemmas.{not_failed, ok_not_err, same_cause}
use Rattle.cj_inputs.proofs.ReadingLemmas.{reads_on}
use Rattle.cj_inputs.proofs.object_sizes.lines_of_file.Goals as goal

abbrev lines_of : Vec SizeLine Global → List Size
lines_of lines = sizes_of lines.items

abbrev whole : Vec ℕ Global → List ℕ
whole bytes = bytes.items

-- the file was not read
not_read : (rose : Type 0) (name bytes : List ℕ) (why : InputError) → Reads rose whole (Err why) (within_bytes name bytes)
    → Reads rose lines_of (Err why) (sizes_of_file name bytes)
unfolding sizes_of_file
not_read rose name bytes why read = reads_on rose whole lines_of why (within_bytes name bytes) (λ all. refused_sizes name (reading all)) read

-- it was, and says this
said_by : (name bytes kept : List ℕ) (said : Result (List Size) Fault) → within_bytes name bytes ≡ Ok kept → reading kept ≡ said
    → sizes_of_file name bytes ≡ refused_sizes name said
unfolding sizes_of_file
said_by name bytes kept said all is = rw (all, is) refl

pub returns-in_err-bytes : goal.returns-in_err-bytes
returns-in_err-bytes g c =
    let why = c.in_err-bytes.field-0.0 in
    let p = err_from_is_err_and c.from_residual.result c.from_residual.ensures.1 in
    rw (p.1, p.2)
    (record {
      fault = λ is. c.in_err-bytes.ensures.fault (ap Err (same_cause is));
      told = λ files told. not_read _ c.args.name.now (bytes_of files c.args.number) why (c.in_err-bytes.ensures.told files told);
      count = c.read_file.ensures.count;
      files = c.read_file.ensures.files;
      later = c.read_file.ensures.later;
    })

pub returns-in-Ok : goal.returns-in-Ok
returns-in-Ok g c = record {
  fault = ok_not_err;
  told = λ files told.
      said_by c.args.name.now (bytes_of files c.args.number) c.in_ok-bytes.bytes.items (Ok (lines_of c.in-Ok.lines)) (c.in_ok-bytes.ensures.told files told)
      (ap reading (sym c.deref.ensures.value) ∙ c.in-Ok.ensures.value);
  count = c.read_file.ensures.count;
  files = c.read_file.ensures.files;
  later = c.read_file.ensures.later;
}

pub returns-in-Err-Memory : goal.returns-in-Err-Memory
returns-in-Err-Memory g c = record {
  fault = not_failed _ tt;
  told = λ files told. tt;
  count = c.read_file.ensures.count;
  files = c.read_file.ensures.files;
  later = c.read_file.ensures.later;
}

pub returns-in_err-copy_of-in-Err-At : goal.returns-in_err-copy_of-in-Err-At
returns-in_err-copy_of-in-Err-At g c =
    let p = err_from_is_err_and c.from_residual-in_err-copy_of-in-Err-At.result c.from_residual-in_err-copy_of-in-Err-At.ensures.1 in
    rw (p.1, p.2)
    (record {
      fault = not_failed _ tt;
      told = λ files told. tt;
      count = c.read_file.ensures.count;
      files = c.read_file.ensures.files;
      later = c.read_file.ensures.later;
    })

pub returns : goal.returns
returns g c =
    let fault : Fault = record { line = c.in-Err-At.line; cause = c.in-Err-At.cause } in
    let said : reading c.deref.result.now ≡ Err fault = rw c.in-Err-At.field-0-is at c.in-Err-At.ensures.value in
    record {
      fault = not_failed _ tt;
      told = λ files told.
          rw c.in_ok-copy_of-in-Err-At.ensures
          (said_by c.args.name.now (bytes_of files c.args.number) c.in_ok-bytes.bytes.items (Err fault) (c.in_ok-bytes.ensures.told files told)
          (ap reading (sym c.deref.ensures.value) ∙ said));
      count = c.read_file.ensures.count;
      files = c.read_file.ensures.files;
      later = c.read_file.ensures.later;
    }
