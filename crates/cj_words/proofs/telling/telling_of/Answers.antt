use Rattle.std.proofs.Common.{ap, sym}
use Rattle.std.specs.Prelude.{is_ok}
use Rattle.cj_words.specs.Lines.{plain_line}
use Rattle.cj_words.proofs.TellingLemmas.{accepted_told, none_told, refused_told}
use Rattle.cj_words.proofs.telling.telling_of.Goals as goal

pub returns-in_default : goal.returns-in_default
returns-in_default c = sym (none_told c.args.words.now (sym c.in_default.ensures))

pub returns-in-Ok : goal.returns-in-Ok
returns-in-Ok c =
    rw (c.is_given.ensures, c.is_given-in-Ok.ensures)
    (sym (accepted_told c.args.words.now (plain_line c.in-Some.line) (sym c.in-Some.ensures) (sym (ap is_ok c.in-Ok.ensures.asked))))

pub returns-in-Err : goal.returns-in-Err
returns-in-Err c =
    sym (refused_told c.args.words.now (plain_line c.in-Some.line) (sym c.in-Some.ensures) (sym (ap is_ok c.in-Err.ensures.asked)))
