use Rattle.std.proofs.Common.{ap, Err}
use Rattle.std.proofs.lemmas.Result.{err_from_is_err_and}
use Rattle.cj_io.specs.Files.{bytes_of}
use Rattle.cj_inputs.proofs.EndLemmas.{not_failed, ok_not_err}
use Rattle.cj_inputs.proofs.ReadingLemmas.{not_within, within_most}
use Rattle.cj_inputs.proofs.reading.read_within.Goals as goal

pub returns-in-Ok : goal.returns-in-Ok
returns-in-Ok g c = record {
  fault = ok_not_err;
  told = λ files told.
      within_most c.args.most c.args.name.now (bytes_of files c.args.number) c.in-Ok.bytes.items (c.in-Ok.ensures.told files told) c.in-Ok.ensures.within;
  small = c.in-Ok.ensures.within;
  count = c.read_whole.ensures.count;
  files = c.read_whole.ensures.files;
  later = c.read_whole.ensures.later;
}

pub returns-in-Err-Memory : goal.returns-in-Err-Memory
returns-in-Err-Memory g c = record {
  fault = not_failed _ tt;
  told = λ files told. tt;
  small = tt;
  count = c.read_whole.ensures.count;
  files = c.read_whole.ensures.files;
  later = c.read_whole.ensures.later;
}

pub returns-in-Err-Failed : goal.returns-in-Err-Failed
returns-in-Err-Failed g c =
    let risen = c.in-Err-Failed.ensures.failed (ap Err c.in-Err-Failed.field-0-is) in
    record {
      fault = λ is. risen;
      told = λ files told. risen;
      small = tt;
      count = c.read_whole.ensures.count;
      files = c.read_whole.ensures.files;
      later = c.read_whole.ensures.later;
    }

pub returns-in_ok-file-in-Err-TooLarge : goal.returns-in_ok-file-in-Err-TooLarge
returns-in_ok-file-in-Err-TooLarge g c = record {
  fault = not_failed _ tt;
  told = λ files told.
      rw c.in_ok-file-in-Err-TooLarge.ensures
      (not_within c.args.most c.args.name.now (bytes_of files c.args.number)
      (c.in-Err-TooLarge.ensures.too_large files told (ap Err c.in-Err-TooLarge.field-0-is)));
  small = tt;
  count = c.read_whole.ensures.count;
  files = c.read_whole.ensures.files;
  later = c.read_whole.ensures.later;
}

pub returns-in_err-file-in-Err-TooLarge : goal.returns-in_err-file-in-Err-TooLarge
returns-in_err-file-in-Err-TooLarge g c =
    let p = err_from_is_err_and c.from_residual.result c.from_residual.ensures.1 in
    rw (p.1, p.2)
    (record {
      fault = not_failed _ tt;
      told = λ files told. tt;
      small = tt;
      count = c.read_whole.ensures.count;
      files = c.read_whole.ensures.files;
      later = c.read_whole.ensures.later;
    })
