use Rattle.std.proofs.Common.{◌≡◌, ◌⊎◌, Some, Result, Ok, Err, refl, sym, subst, ◌∙◌}
use Rattle.std.proofs.lemmas.Result.{err_from_is_err_and}
use Rattle.std.specs.Prelude.{IfOk}
use Rattle.cj_words.specs.declared.option.UsageFault.{UsageFault}
use Rattle.cj_words.specs.Commands.{PlainCommand, command_of, plain_command}
use Rattle.cj_screen.specs.Tasks.{ComesToTask, Readies, ReadsNothing}
use Rattle.cj_screen.proofs.ResultLemmas.{comes_before, count_stays, never_of_words, outputs_of_command, outputs_of_fault, usage_fault}
use Rattle.cj_screen.proofs.reading.read_task.Goals as goal

pub returns-clause-usage : goal.returns-clause-usage
returns-clause-usage g c = λ fault. (
  λ e. absurd (never_of_words c.read_asked.result fault c.read_asked.ensures.between e),
  λ e. let is = c.in_ok-command.ensures in absurd cc,
)

pub returns-clause-before : goal.returns-clause-before
returns-clause-before g c = comes_before c.read_asked.result c.read_asked.ensures.between

pub returns-clause-read : goal.returns-clause-read
returns-clause-read g c = c.read_asked.ensures.read

pub returns-clause-told : goal.returns-clause-told
returns-clause-told g c = λ files now are.
    let is = c.in_ok-command.ensures in
    let either = subst (λ (r : Result PlainCommand UsageFault). (g.F.Folder.files c.args.folder.now ≡ Some files) ⊎ ReadsNothing r) (sym is) are in
    rw (outputs_of_command c.args.words.now files now (plain_command c.in_ok-command.command) is) (c.read_asked.ensures.told files now either)

pub returns-clause-readies : goal.returns-clause-readies
returns-clause-readies g c = λ files command told asked.
    let both : ◌≡◌ {A = Result PlainCommand UsageFault} (Ok (plain_command c.in_ok-command.command)) (Ok command) = c.in_ok-command.ensures ∙ asked in
    let same : plain_command c.in_ok-command.command ≡ command = cc in
    subst (λ (a : PlainCommand). IfOk c.read_asked.result (Readies a files)) same (c.read_asked.ensures.readies files told)

pub returns-clause-unread : goal.returns-clause-unread
returns-clause-unread g c = λ command asked.
    let both : ◌≡◌ {A = Result PlainCommand UsageFault} (Ok (plain_command c.in_ok-command.command)) (Ok command) = c.in_ok-command.ensures ∙ asked in
    let same : plain_command c.in_ok-command.command ≡ command = cc in
    subst (λ (a : PlainCommand). ComesToTask a c.read_asked.result) same c.read_asked.ensures.unread

pub returns-clause-files : goal.returns-clause-files
returns-clause-files g c = c.read_asked.ensures.files

pub returns-clause-later : goal.returns-clause-later
returns-clause-later g c = c.read_asked.ensures.later

pub returns-in_err-command : goal.returns-in_err-command
returns-in_err-command g c =
    let fault = c.in_err-command.field-0.0 in
    let is : Err fault ≡ command_of c.args.words.now = c.in_err-command.ensures in
    let p = err_from_is_err_and c.from_residual.result c.from_residual.ensures.1 in
    rw (p.1, p.2) (record {
      usage = usage_fault c.args.words.now fault is;
      before = tt;
      read = λ e. absurd cc;
      told = λ files now are. outputs_of_fault c.args.words.now files now fault is;
      readies = λ files command told asked. tt;
      unread = λ command asked. let both = is ∙ asked in absurd cc;
      files = refl;
      later = count_stays _;
    })
