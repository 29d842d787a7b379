use Rattle.std.proofs.Common.{arith, ◌≡◌, ◌∙◌, ap, Err}
use Rattle.std.proofs.lemmas.Result.{err_from_is_err_and}
use Rattle.cj_case.specs.Problems.{plain_problem}
use Rattle.cj_io.specs.Faults.{Rose}
use Rattle.cj_io.specs.declared.folder.FolderError.TheVariants.{Failed}
use Rattle.cj_io.proofs.FileLemmas.{rose_since}
use Rattle.cj_words.specs.Settings.{plain_settings}
use Rattle.cj_inputs.specs.Cases.{case_asked}
use Rattle.cj_inputs.proofs.FromFileLemmas.{problem_from_files}
use Rattle.cj_inputs.proofs.StepLemmas.{folder_between, folder_stops, gives_wider, listing_failed}
use Rattle.cj_inputs.proofs.preparing.prepare.Goals as goal

pub returns-in_err-names : goal.returns-in_err-names
returns-in_err-names g c =
    let e = c.in_err-names.field-0.0 in
    let rose = Rose (g.F.Folder.faults c.args.folder.now) (g.F.Folder.faults c.names.new.self) in
    let failed : e ≡ Failed → rose = λ is. c.in_err-names.ensures.failed (ap Err is) in
    let p = err_from_is_err_and c.from_residual.result c.from_residual.ensures.1 in
    rw (p.1, p.2)
    (record {
      between = folder_between e;
      read = listing_failed e failed;
      told = λ files told. folder_stops rose e _ failed;
      trim_same = λ files told. tt;
      files = c.names.ensures.files;
      later = c.names.ensures.later;
    })

pub returns : goal.returns
returns g c =
    let first = g.F.Folder.faults c.args.folder.now in
    let before = g.F.Folder.faults c.names.new.self in
    let now = g.F.Folder.faults c.prepare_listed.new.folder in
    let since = rose_since first before now c.names.ensures.later in
    record {
      between = c.prepare_listed.ensures.between;
      read = λ is. since (c.prepare_listed.ensures.read is);
      told = λ files told.
          let known = c.deref.ensures.value ∙ c.in_ok-names.ensures.told files told in
          gives_wider (Rose before now) (Rose first now) plain_problem c.prepare_listed.result (case_asked files (plain_settings c.args.settings.now)) since
          (c.prepare_listed.ensures.told files (c.names.ensures.files ∙ told) known);
      trim_same = λ files told.
          let known = c.deref.ensures.value ∙ c.in_ok-names.ensures.told files told in
          problem_from_files (Rose before now) files (plain_settings c.args.settings.now) c.prepare_listed.result (c.prepare_listed.ensures.told files (c.names.ensures.files ∙ told) known);
      files = c.prepare_listed.ensures.files ∙ c.names.ensures.files;
      later = omega (arith, c.prepare_listed.ensures.later, c.names.ensures.later);
    }
