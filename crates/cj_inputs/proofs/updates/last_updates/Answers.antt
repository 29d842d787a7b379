use Rattle.std.proofs.Common.{◌∙◌, ◌-◌, ◌++◌, List, ap, sym, take, drop, length, arith}
use Rattle.std.proofs.lemmas.List.{append-nil, nil_from_length}
use Rattle.cj_inputs.specs.declared.input_files.Entry.{Entry}
use Rattle.cj_inputs.specs.Updates.{is_last_update, last_updates}
use Rattle.cj_inputs.proofs.UpdateFileLemmas.{opened, update_passed}
use Rattle.cj_inputs.proofs.updates.last_updates.Goals as goal

pub loop-rest-preserved : goal.loop-rest-preserved
loop-rest-preserved c =
    let suffix = c.args.suffix.now in
    let update = c.args.update.now in
    let before = c.loop-rest.last.items in
    let rest = c.loop-rest.rest.now in
    let entry = c.entry-item.result in
    let behind = take (length rest - 1) (drop 1 rest) in
    update_passed suffix update entry behind before (sym c.is_last_update.ensures ∙ c.if-is_last_update.false)
    ∙ ap (λ (es : List Entry). before ++ last_updates suffix update es) (sym (opened rest entry c.in-len1-up.len_at_least c.entry-item.is))
    ∙ c.loop-rest.invariant

pub returns : goal.returns
returns c =
    let before = c.loop-rest.last.items in
    sym (append-nil before)
    ∙ ap (λ (es : List Entry). before ++ last_updates c.args.suffix.now c.args.update.now es) (sym (nil_from_length c.loop-rest.rest.now (omega (arith, c.in_default.len_below))))
    ∙ c.loop-rest.invariant
