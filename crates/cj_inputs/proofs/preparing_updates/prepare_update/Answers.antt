use Rattle.std.proofs.Common.{arith, ◌≡◌, ◌∙◌, ap, Err}
use Rattle.std.proofs.lemmas.Result.{err_from_is_err_and}
use Rattle.cj_io.specs.Faults.{Rose}
use Rattle.cj_io.specs.declared.folder.FolderError.TheVariants.{Failed}
use Rattle.cj_words.specs.Commands.{plain_rescreening}
use Rattle.cj_inputs.specs.Updates.{cases_asked, plain_updating}
use Rattle.cj_inputs.proofs.StepLemmas.{folder_between, folder_stops, gives_wider, listing_failed}
use Rattle.cj_inputs.proofs.preparing_updates.prepare_update.Goals as goal

pub returns-in_err-names : goal.returns-in_err-names
returns-in_err-names g c =
    let e = c.in_err-names.field-0.0 in
    let rose = Rose (g.F.Folder.faults c.args.folder.now) (g.F.Folder.faults c.names.new.self) in
    let failed : e ≡ Failed → rose = λ is. c.in_err-names.ensures.failed (ap Err is) in
    let p = err_from_is_err_and c.from_residual.result c.from_residual.ensures.1 in
    rw (p.1, p.2)
    (record {
      between = folder_between e;
      read = listing_failed e failed;
      told = λ files told. folder_stops rose e _ failed;
      files = c.names.ensures.files;
      later = c.names.ensures.later;
    })

pub returns : goal.returns
returns g c =
    let read = c.read_updating-read.ensures in
    let told = c.tell_all_faults.ensures in
    record {
      between = read.between;
      read = λ is. let rose = read.read is in omega (arith, rose, told.later, c.names.ensures.later);
      told = λ files is.
          gives_wider _ _ plain_updating c.read_updating-read.result (cases_asked files (plain_rescreening c.args.rescreening.now))
          (λ rose. omega (arith, rose, told.later, c.names.ensures.later))
          (read.told files (c.names.ensures.files ∙ is) (c.deref.ensures.value ∙ c.in_ok-names.ensures.told files is));
      files = told.files ∙ read.files ∙ c.names.ensures.files;
      later = omega (arith, read.later, told.later, c.names.ensures.later);
    }
