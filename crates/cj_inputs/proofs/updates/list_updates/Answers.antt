use Rattle.std.proofs.Common.{◌∙◌, ◌<◌, List, length, ap, sym, subst, arith}
use Rattle.std.specs.Prelude.{All}
use Rattle.cj_inputs.specs.declared.input_files.Entry.{Entry}
use Rattle.cj_inputs.specs.Updates.{last_updates, updates_of}
use Rattle.cj_inputs.proofs.UpdateFileLemmas.{all_updates, few_updates}
use Rattle.cj_inputs.proofs.updates.list_updates.Goals as goal

pub returns-clause-value : goal.returns-clause-value
unfolding updates_of
returns-clause-value c =
    c.in_ok-last.ensures
    ∙ ap (λ (es : List Entry). last_updates c.args.suffix.now c.args.update.now es) (c.deref.ensures.value ∙ c.in_ok-entries.ensures.value)

pub returns-clause-few : goal.returns-clause-few
returns-clause-few c =
    let is = c.in_ok-last.ensures ∙ ap (λ (es : List Entry). last_updates c.args.suffix.now c.args.update.now es) c.deref.ensures.value in
    omega (arith, ap (λ (es : List Entry). length es) is, few_updates c.args.suffix.now c.args.update.now c.in_ok-entries.entries.items, c.in_ok-entries.ensures.few)

pub returns-clause-numbers : goal.returns-clause-numbers
returns-clause-numbers c =
    let is = c.in_ok-last.ensures ∙ ap (λ (es : List Entry). last_updates c.args.suffix.now c.args.update.now es) c.deref.ensures.value in
    subst (λ (es : List Entry). All (λ e. e.number < length c.args.names.now) es) (sym is)
    (all_updates (λ e. e.number < length c.args.names.now) c.args.suffix.now c.args.update.now c.in_ok-entries.entries.items c.in_ok-entries.ensures.numbers)
