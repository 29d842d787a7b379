use Rattle.std.proofs.Common.{◌∙◌, Bool, Ok, Result, ap, sym}
use Rattle.cj_base.specs.PlainTicks.{micros_of}
use Rattle.cj_words.specs.Commands.{PlainRescreening, plain_screening, rescreening_of}
use Rattle.cj_words.specs.Options.{given_of, listed}
use Rattle.cj_words.specs.Settings.{update_or}
use Rattle.cj_words.specs.declared.option.UsageFault.{UsageFault}
use Rattle.cj_words.proofs.EndLemmas.{screening_ends, some_mapped}
use Rattle.cj_words.proofs.commands.rescreening_of.Goals as goal

pub invariant_of-result : goal.invariant_of-result
invariant_of-result c =
    let screening = c.in_ok-screening.screening in
    let both = screening_ends (listed (given_of c.args.words.now)) (plain_screening screening) c.requires.ends (sym c.in_ok-screening.ensures) in
    record {
      begins = sym (some_mapped micros_of screening.settings.from) ∙ both.0;
      ends = sym (some_mapped micros_of screening.settings.to) ∙ both.1;
    }

pub returns : goal.returns
unfolding rescreening_of
returns c =
    let screening = c.in_ok-screening.screening in
    let update = c.in-Some.ensures ∙ ap (update_or screening.settings.suffix.now) c.value_of.ensures in
    let rescreening : Bool → Result PlainRescreening UsageFault = λ (changed : Bool). Ok (record {
      screening = plain_screening screening;
      update = c.in-Some.update.now;
      changed = changed;
    }) in
    rw (sym c.in_ok-screening.ensures, sym update) (ap rescreening c.is_given.ensures)
