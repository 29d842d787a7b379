use Rattle.std.proofs.Common.{◌++◌, ap, ◌∙◌}
use Rattle.std.specs.Prelude.{codes}
use Rattle.std.proofs.lemmas.Result.{on_ok_weaker}
use Rattle.cj_kvn.specs.Entries.{entry}
use Rattle.cj_cdm.specs.Texts.{period_text}
use Rattle.cj_cdm.proofs.TextLemmas.{joined_ok}
use Rattle.cj_cdm.proofs.printing.heading.push_period.Goals as goal

pub returns : goal.returns
unfolding period_text
returns c =
    let start = c.in_ok-push_entry.ensures.appended ∙ ap (λ v. c.args.text.now.items ++ entry (codes "START_SCREEN_PERIOD") v) c.epoch_text.ensures.exact in
    let stop = on_ok_weaker c.push_entry-2.result (λ e. e ∙ ap (λ v. c.push_entry.new.text.items ++ entry (codes "STOP_SCREEN_PERIOD") v) c.epoch_text-2.ensures.exact) c.push_entry-2.ensures.appended in
    joined_ok c.push_entry-2.result c.args.text.now.items _ _ _ _ start stop
