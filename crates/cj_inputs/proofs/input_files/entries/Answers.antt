use Rattle.std.proofs.Common.{arith, ◌∙◌, ◌+◌, ◌++◌, [], ◌∷◌, ℕ, List, Vec, Global, ap, sym, refl, drop}
use Rattle.std.proofs.lemmas.List.{append-nil, drop_all}
use Rattle.std.proofs.lemmas.Result.{IfOk-from_err}
use Rattle.cj_inputs.specs.InputFiles.{entries_from, is_taken, plain_apart}
use Rattle.cj_inputs.specs.declared.input_files.Entry.{Entry}
use Rattle.cj_inputs.proofs.InputFileLemmas.{entry_left, entry_taken, next_name}
use Rattle.cj_inputs.proofs.input_files.entries.Goals as goal
use Rattle.cj_inputs.proofs.input_files.entries.Goals.{then-is_taken+in_ok-name+in_ok-push, else-is_taken}

pub loop-name-init : goal.loop-name-init
loop-name-init c = record { number = refl; listed = rw c.new-entries.ensures.items refl }

pub loop-name-preserved : goal.loop-name-preserved
loop-name-preserved c =
    let suffix = c.args.suffix.now in
    let apart = plain_apart c.args.apart in
    let names = c.args.names.now in
    let before = c.loop-name.entries.items in
    let number = c.loop-name.number in
    let i = c.loop-name.name-index in
    let name = c.name-item.result in
    let rest = drop (i + 1) names in
    let listed = ap (λ (ns : List (List ℕ)). before ++ entries_from suffix apart number ns)
    (sym (next_name names i name c.loop-name-test.true c.name-item.is)) ∙ c.loop-name.invariant.listed in
    let said = ap (is_taken suffix apart) (sym c.as_slice.ensures) ∙ sym c.is_taken.ensures in
    record {
      number = omega (arith, c.loop-name.invariant.number);
      listed = elim c.if-is_taken.branch [
        | then-is_taken+in_ok-name+in_ok-push w ↦
            let pushed = ap (λ (v : Vec Entry Global). v.items) w.entries-is ∙ w.in_ok-push.ensures.items
            ∙ ap (λ (n : List ℕ). before ++ record { name = n; number = number } ∷ []) (w.in_ok-name.ensures ∙ w.as_slice-then-is_taken.ensures) in
            ap (λ (some : List Entry). some ++ entries_from suffix apart (number + 1) rest) pushed
            ∙ entry_taken suffix apart number name rest before (said ∙ w.if-is_taken.true) ∙ listed
        | else-is_taken w ↦
            ap (λ (v : Vec Entry Global). v.items ++ entries_from suffix apart (number + 1) rest) w.entries-is
            ∙ entry_left suffix apart number name rest before (said ∙ w.if-is_taken.false) ∙ listed
      ];
    }

pub returns : goal.returns
returns c =
    let before = c.loop-name.entries.items in
    let none = drop_all c.loop-name.name-index c.args.names.now c.loop-name-test.false in
    sym (append-nil before) ∙ ap (λ (ns : List (List ℕ)). before ++ entries_from c.args.suffix.now (plain_apart c.args.apart) c.loop-name.number ns)
    (sym none)
    ∙ c.loop-name.invariant.listed

pub returns-in_err-name : goal.returns-in_err-name
returns-in_err-name c = IfOk-from_err c.from_residual.result _ c.from_residual.ensures.0

pub returns-in_err-push : goal.returns-in_err-push
returns-in_err-push c = IfOk-from_err c.from_residual-in_err-push.result _ c.from_residual-in_err-push.ensures.0
