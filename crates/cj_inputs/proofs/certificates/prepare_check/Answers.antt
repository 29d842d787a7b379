use Rattle.std.proofs.Common.{arith, ◌≡◌, ◌∙◌, ◌≤◌, ap, Err, Global, length, None, Option, Some, Vec, ℕ}
use Rattle.std.specs.Prelude.{IfSome}
use Rattle.std.proofs.lemmas.Result.{err_from_is_err_and}
use Rattle.cj_case.specs.Problems.{plain_problem}
use Rattle.cj_io.specs.Faults.{Rose}
use Rattle.cj_io.specs.declared.folder.FolderError.TheVariants.{Failed}
use Rattle.cj_io.proofs.FileLemmas.{rose_since}
use Rattle.cj_words.specs.Commands.{plain_checking}
use Rattle.cj_words.specs.Limits.{MOST_CERTIFICATE_BYTES}
use Rattle.cj_inputs.proofs.EndLemmas.{ok_not_err, same_cause}
use Rattle.cj_inputs.proofs.StepLemmas.{case_fails, certificate_fails, folder_between, folder_stops, inputs_made, listing_failed, report_fails}
use Rattle.cj_inputs.proofs.certificates.prepare_check.Goals as goal

at_most : (few most : ℕ) → few ≤ most → (report : Option (Vec ℕ Global)) → IfSome report (λ bytes. length bytes.items ≤ few)
    → IfSome report (λ bytes. length bytes.items ≤ most)
at_most few most less None small = tt
at_most few most less (Some bytes) small = omega (arith, less, small)

pub returns-in_err-names : goal.returns-in_err-names
returns-in_err-names g c =
    let e = c.in_err-names.field-0.0 in
    let rose = Rose (g.F.Folder.faults c.args.folder.now) (g.F.Folder.faults c.names.new.self) in
    let failed : e ≡ Failed → rose = λ is. c.in_err-names.ensures.failed (ap Err is) in
    let p = err_from_is_err_and c.from_residual.result c.from_residual.ensures.1 in
    rw (p.1, p.2)
    (record {
      between = folder_between e;
      read = listing_failed e failed;
      told = λ files told. folder_stops rose e _ failed;
      small = tt;
      small_report = tt;
      files = c.names.ensures.files;
      later = c.names.ensures.later;
    })

pub returns-in_err-problem : goal.returns-in_err-problem
returns-in_err-problem g c =
    let s = c.in_err-problem.field-0.0 in
    let first = g.F.Folder.faults c.args.folder.now in
    let before = g.F.Folder.faults c.names.new.self in
    let now = g.F.Folder.faults c.prepare_with_updates.new.folder in
    let since = rose_since first before now c.names.ensures.later in
    let p = err_from_is_err_and c.from_residual-in_err-problem.result c.from_residual-in_err-problem.ensures.1 in
    rw (p.1, p.2)
    (record {
      between = c.in_err-problem.ensures.between;
      read = λ is. since (c.in_err-problem.ensures.read (ap Err (same_cause is)));
      told = λ files told.
          let known = c.deref.ensures.value ∙ c.in_ok-names.ensures.told files told in
          case_fails (Rose before now) (Rose first now) files (plain_checking c.args.checking.now) s since
          (c.in_err-problem.ensures.told files (c.names.ensures.files ∙ told) known);
      small = tt;
      small_report = tt;
      files = c.prepare_with_updates.ensures.files ∙ c.names.ensures.files;
      later = omega (arith, c.prepare_with_updates.ensures.later, c.names.ensures.later);
    })

pub returns-in_err-certificate : goal.returns-in_err-certificate
returns-in_err-certificate g c =
    let s = c.in_err-certificate.field-0.0 in
    let first = g.F.Folder.faults c.args.folder.now in
    let before = g.F.Folder.faults c.prepare_with_updates.new.folder in
    let now = g.F.Folder.faults c.read_named.new.folder in
    let since = rose_since first before now (omega (arith, c.prepare_with_updates.ensures.later, c.names.ensures.later)) in
    let kept = c.prepare_with_updates.ensures.files ∙ c.names.ensures.files in
    let p = err_from_is_err_and c.from_residual-in_err-certificate.result c.from_residual-in_err-certificate.ensures.1 in
    rw (p.1, p.2)
    (record {
      between = c.in_err-certificate.ensures.between;
      read = λ is. since (c.in_err-certificate.ensures.read (ap Err (same_cause is)));
      told = λ files told.
          let listed = c.in_ok-names.ensures.told files told in
          let made = c.in_ok-problem.ensures.told files (c.names.ensures.files ∙ told) (c.deref.ensures.value ∙ listed) in
          certificate_fails (Rose before now) (Rose first now) files (plain_checking c.args.checking.now) (plain_problem c.in_ok-problem.problem)
          c.most_certificate_bytes-most.result s since c.most_certificate_bytes-most.ensures.value made
          (c.in_err-certificate.ensures.told files (kept ∙ told) (c.deref-2.ensures.value ∙ listed));
      small = tt;
      small_report = tt;
      files = c.read_named.ensures.files ∙ kept;
      later = omega (arith, c.read_named.ensures.later, c.prepare_with_updates.ensures.later, c.names.ensures.later);
    })

pub returns-in_err-report : goal.returns-in_err-report
returns-in_err-report g c =
    let s = c.in_err-report.field-0.0 in
    let first = g.F.Folder.faults c.args.folder.now in
    let before = g.F.Folder.faults c.read_named.new.folder in
    let now = g.F.Folder.faults c.read_report.new.folder in
    let since = rose_since first before now (omega (arith, c.read_named.ensures.later, c.prepare_with_updates.ensures.later, c.names.ensures.later)) in
    let listed = c.prepare_with_updates.ensures.files ∙ c.names.ensures.files in
    let kept = c.read_named.ensures.files ∙ listed in
    let p = err_from_is_err_and c.from_residual-in_err-report.result c.from_residual-in_err-report.ensures.1 in
    rw (p.1, p.2)
    (record {
      between = c.in_err-report.ensures.between;
      read = λ is. since (c.in_err-report.ensures.read (ap Err (same_cause is)));
      told = λ files told.
          let names = c.in_ok-names.ensures.told files told in
          let made = c.in_ok-problem.ensures.told files (c.names.ensures.files ∙ told) (c.deref.ensures.value ∙ names) in
          let read = c.in_ok-certificate.ensures.told files (listed ∙ told) (c.deref-2.ensures.value ∙ names) in
          report_fails (Rose before now) (Rose first now) files (plain_checking c.args.checking.now) (plain_problem c.in_ok-problem.problem)
          c.in_ok-certificate.certificate.items c.most_certificate_bytes-most.result s since c.most_certificate_bytes-most.ensures.value made read
          (c.in_err-report.ensures.told files (kept ∙ told) (c.deref-3.ensures.value ∙ names));
      small = tt;
      small_report = tt;
      files = c.read_report.ensures.files ∙ kept;
      later = omega (arith, c.read_report.ensures.later, c.read_named.ensures.later, c.prepare_with_updates.ensures.later, c.names.ensures.later);
    })

pub returns : goal.returns
returns g c =
    let listed = c.prepare_with_updates.ensures.files ∙ c.names.ensures.files in
    let kept = c.read_named.ensures.files ∙ listed in
    let most = c.most_certificate_bytes-most in
    record {
      between = tt;
      read = ok_not_err;
      told = λ files told.
          let names = c.in_ok-names.ensures.told files told in
          let made = c.in_ok-problem.ensures.told files (c.names.ensures.files ∙ told) (c.deref.ensures.value ∙ names) in
          let read = c.in_ok-certificate.ensures.told files (listed ∙ told) (c.deref-2.ensures.value ∙ names) in
          inputs_made files (plain_checking c.args.checking.now) (plain_problem c.in_ok-problem.problem) c.in_ok-certificate.certificate.items _ most.result
          most.ensures.value made read (c.in_ok-report.ensures.told files (kept ∙ told) (c.deref-3.ensures.value ∙ names));
      small = omega (arith, c.in_ok-certificate.ensures.small, most.ensures.most);
      small_report = at_most most.result MOST_CERTIFICATE_BYTES most.ensures.most c.in_ok-report.report c.in_ok-report.ensures.small;
      files = c.read_report.ensures.files ∙ kept;
      later = omega (arith, c.read_report.ensures.later, c.read_named.ensures.later, c.prepare_with_updates.ensures.later, c.names.ensures.later);
    }
