use Rattle.std.proofs.Common.{Bool, Ok, Result, sym, ap, ◌∙◌}
use Rattle.std.specs.Prelude.{codes}
use Rattle.std.specs.Option.{option_copied}
use Rattle.cj_words.specs.Commands.{PlainChecking, checking_of}
use Rattle.cj_words.specs.Settings.{file_text_or, name_or, plain_settings, update_or_none}
use Rattle.cj_words.specs.declared.option.UsageFault.{UsageFault}
use Rattle.cj_words.proofs.commands.checking_of.Goals as goal

pub returns : goal.returns
unfolding checking_of
returns c =
    let certificate = c.in-Some.ensures ∙ ap (file_text_or 200 (codes "screen.cert")) c.value_of.ensures in
    let update = c.in-Some-update_or_none.ensures ∙ ap (update_or_none c.in_ok-settings.settings.suffix.now) c.value_of-2.ensures in
    let report = c.in-Some-name_or.ensures ∙ ap name_or c.value_of-3.ensures in
    let checking : Bool → Result PlainChecking UsageFault = λ (brief : Bool). Ok (record {
      settings = plain_settings c.in_ok-settings.settings;
      certificate = c.in-Some.certificate.now;
      report = option_copied c.in-Some-name_or.report;
      update = option_copied c.in-Some-update_or_none.update;
      brief = brief;
    }) in
    rw (sym c.in_ok-threshold.ensures.value, sym c.in_ok-unsized_settings.ensures.value, sym certificate, sym c.in_ok-settings.ensures.value, sym update, sym report)
    (ap checking c.asks_brief.ensures)
