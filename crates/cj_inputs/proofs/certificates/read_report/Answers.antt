use Rattle.std.proofs.Common.{ap, Err}
use Rattle.std.proofs.lemmas.Result.{err_from_is_err_and}
use Rattle.cj_io.specs.Faults.{Rose}
use Rattle.cj_inputs.proofs.EndLemmas.{ok_not_err, same_cause}
use Rattle.cj_inputs.proofs.StepLemmas.{named_fails, named_read}
use Rattle.cj_inputs.proofs.certificates.read_report.Goals as goal

pub returns-in_err-bytes : goal.returns-in_err-bytes
returns-in_err-bytes g c =
    let named = c.in_err-bytes.ensures in
    let rose = Rose (g.F.Folder.faults c.args.folder.now) (g.F.Folder.faults c.read_named.new.folder) in
    let p = err_from_is_err_and c.from_residual.result c.from_residual.ensures.1 in
    rw (p.1, p.2, c.in-Some.is)
    (record {
      between = named.between;
      read = λ is. named.read (ap Err (same_cause is));
      told = λ files told known. named_fails c.args.most rose files c.in-Some.name.now c.in_err-bytes.field-0.0 (named.told files told known);
      small = tt;
      files = c.read_named.ensures.files;
      later = c.read_named.ensures.later;
    })

pub returns : goal.returns
returns g c =
    rw c.in-Some.is
    (record {
      between = tt;
      read = ok_not_err;
      told = λ files told known. named_read c.args.most files c.in-Some.name.now c.in_ok-bytes.bytes.items (c.in_ok-bytes.ensures.told files told known);
      small = c.in_ok-bytes.ensures.small;
      files = c.read_named.ensures.files;
      later = c.read_named.ensures.later;
    })
