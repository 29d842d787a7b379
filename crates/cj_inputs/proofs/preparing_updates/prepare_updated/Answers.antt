use Rattle.std.proofs.Common.{◌∙◌, arith}
use Rattle.cj_case.specs.Problems.{plain_problem}
use Rattle.cj_words.specs.Settings.{plain_settings}
use Rattle.cj_inputs.specs.Updates.{updated_asked}
use Rattle.cj_inputs.proofs.StepLemmas.{gives_wider}
use Rattle.cj_inputs.proofs.preparing_updates.prepare_updated.Goals as goal

pub returns : goal.returns
returns g c =
    let read = c.read_updated_problem-read.ensures in
    let told = c.tell_all_faults.ensures in
    let asked = plain_settings c.args.settings.now in
    record {
      between = read.between;
      read = λ is. let rose = read.read is in omega (arith, rose, told.later);
      told = λ files is known.
          gives_wider _ _ plain_problem c.read_updated_problem-read.result (updated_asked files asked c.args.update.now) (λ rose. omega (arith, rose, told.later)) (read.told files is known);
      count = told.count ∙ read.count;
      files = told.files ∙ read.files;
      later = omega (arith, read.later, told.later);
    }
