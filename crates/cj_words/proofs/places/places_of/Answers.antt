use Rattle.std.proofs.Common.{ap, sym}
use Rattle.std.specs.Prelude.{is_ok}
use Rattle.cj_words.specs.Lines.{plain_line}
use Rattle.cj_words.proofs.LineLemmas.{accepted_line, no_line, refused_line}
use Rattle.cj_words.proofs.places.places_of.Goals as goal

pub returns-in_default : goal.returns-in_default
returns-in_default c = sym (no_line c.args.words.now (sym c.in_default.ensures))

pub returns-in-Ok : goal.returns-in-Ok
returns-in-Ok c =
    rw (c.value_of.ensures, c.value_of-in-Ok.ensures)
    (sym (accepted_line c.args.words.now (plain_line c.in-Some.line) (sym c.in-Some.ensures) (sym (ap is_ok c.in-Ok.ensures.asked))))

pub returns-in-Err : goal.returns-in-Err
returns-in-Err c =
    sym (refused_line c.args.words.now (plain_line c.in-Some.line) (sym c.in-Some.ensures) (sym (ap is_ok c.in-Err.ensures.asked)))
