use Rattle.std.proofs.Common.{◌∙◌, ◌≤◌, ◌<◌, ap, sym, subst, length, List}
use Rattle.std.specs.Prelude.{All}
use Rattle.cj_inputs.specs.declared.input_files.Entry.{Entry}
use Rattle.cj_inputs.specs.Orders.{sorted}
use Rattle.cj_inputs.specs.InputFiles.{entry_cmp, inputs_of, plain_apart}
use Rattle.cj_inputs.proofs.SortLemmas.{sort_is}
use Rattle.cj_inputs.proofs.InputFileLemmas.{entries_total, entries_exact, few_inputs, numbers_of_inputs}
use Rattle.cj_inputs.proofs.input_files.list_inputs.Goals as goal

pub returns-clause-value : goal.returns-clause-value
unfolding inputs_of
returns-clause-value c =
    sort_is entries_total entries_exact c.in_ok-entries.entries.items c.sort.new.self.items c.sort.ensures.permutation c.in_ok-sort.ensures.sorted
    ∙ ap (λ (es : List Entry). sorted entry_cmp es) c.in_ok-entries.ensures

pub returns-clause-few : goal.returns-clause-few
returns-clause-few c = subst (λ (es : List Entry). length es ≤ length c.args.names.now) (sym (returns-clause-value c)) (few_inputs c.args.suffix.now (plain_apart c.args.apart) c.args.names.now)

pub returns-clause-numbers : goal.returns-clause-numbers
returns-clause-numbers c = subst (λ (es : List Entry). All (λ e. e.number < length c.args.names.now) es) (sym (returns-clause-value c)) (numbers_of_inputs c.args.suffix.now (plain_apart c.args.apart) c.args.names.now)
