use Rattle.std.proofs.Common.{◌++◌, Bool, [], cond, sym, ap, ◌∙◌, append-nil}
use Rattle.std.proofs.lemmas.List.{map-append}
use Rattle.cj_case.specs.Leaves.{plain_leaf, plain_leaves}
use Rattle.cj_brief.proofs.telling.tell.Goals as goal

pub returns-then-are_far : goal.returns-then-are_far
returns-then-are_far c =
    let old = plain_leaves c.args.told.now.items in
    sym (append-nil old) ∙ ap (λ (is : Bool). old ++ cond is [] (plain_leaves c.args.leaves.now)) (sym (sym c.are_far.ensures ∙ c.if-are_far.true))

pub returns : goal.returns
returns c =
    let old = plain_leaves c.args.told.now.items in
    ap plain_leaves c.in_ok-extend_from_slice.ensures.items ∙ map-append plain_leaf c.args.told.now.items c.args.leaves.now
    ∙ ap (λ (is : Bool). old ++ cond is [] (plain_leaves c.args.leaves.now)) (sym (sym c.are_far.ensures ∙ c.if-are_far.false))
