use Rattle.std.proofs.Common.{◌∙◌, ◌<◌, List, length, not, filter, ap, sym, subst, arith}
use Rattle.std.specs.Prelude.{All}
use Rattle.std.proofs.lemmas.List.Elements.{All-filter}
use Rattle.cj_inputs.specs.declared.input_files.Entry.{Entry}
use Rattle.cj_inputs.specs.InputFiles.{plain_apart}
use Rattle.cj_inputs.specs.Updates.{base_of, is_update}
use Rattle.cj_inputs.proofs.UpdateFileLemmas.{fewer_left}
use Rattle.cj_inputs.proofs.updates.list_base.Goals as goal

pub returns-clause-value : goal.returns-clause-value
unfolding base_of
returns-clause-value c =
    c.leave_base.ensures
    ∙ ap (λ (es : List Entry). filter (λ e. not (is_update c.args.suffix.now c.args.update.now (plain_apart c.args.apart) e.name)) es) c.in_ok-base.ensures.value

pub returns-clause-few : goal.returns-clause-few
returns-clause-few c =
    let left = fewer_left (λ e. not (is_update c.args.suffix.now c.args.update.now (plain_apart c.args.apart) e.name)) c.in_ok-base.base.items in
    omega (arith, left, ap (λ (es : List Entry). length es) c.leave_base.ensures, c.in_ok-base.ensures.few)

pub returns-clause-numbers : goal.returns-clause-numbers
returns-clause-numbers c =
    subst (λ (es : List Entry). All (λ e. e.number < length c.args.names.now) es) (sym c.leave_base.ensures)
    (All-filter (λ e. not (is_update c.args.suffix.now c.args.update.now (plain_apart c.args.apart) e.name)) (λ e. e.number < length c.args.names.now) c.in_ok-base.base.items
    c.in_ok-base.ensures.numbers)
