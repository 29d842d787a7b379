use Rattle.std.proofs.Common.{◌++◌, Bool, [], cond, sym, ap, ◌∙◌, append-nil}
use Rattle.std.proofs.lemmas.List.{map-append}
use Rattle.std.proofs.lemmas.List.Folds.{list_all-map}
use Rattle.cj_case.specs.declared.kind.Kind.TheVariants.{Far}
use Rattle.cj_case.specs.Leaves.{PlainLeaf, plain_leaf, plain_leaves, same_kind}
use Rattle.cj_slabs.proofs.roots_sifted.tell_leaves.Goals as goal

pub returns-then-are_far : goal.returns-then-are_far
returns-then-are_far c =
    let old = plain_leaves c.args.told.now.items in
    let far = list_all-map (λ (s : PlainLeaf). same_kind Far s.kind) plain_leaf c.args.leaves.now ∙ sym c.are_far.ensures ∙ c.if-are_far.true in
    sym (append-nil old) ∙ ap (λ (is : Bool). old ++ cond is [] (plain_leaves c.args.leaves.now)) (sym far)

pub returns : goal.returns
returns c =
    let old = plain_leaves c.args.told.now.items in
    let far = list_all-map (λ (s : PlainLeaf). same_kind Far s.kind) plain_leaf c.args.leaves.now ∙ sym c.are_far.ensures ∙ c.if-are_far.false in
    ap plain_leaves c.in_ok-extend_from_slice.ensures.items ∙ map-append plain_leaf c.args.told.now.items c.args.leaves.now
    ∙ ap (λ (is : Bool). old ++ cond is [] (plain_leaves c.args.leaves.now)) (sym far)
