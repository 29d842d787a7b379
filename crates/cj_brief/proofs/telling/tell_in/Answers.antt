use Rattle.std.proofs.Common.{[], cond, length-set}
use Rattle.std.specs.List.{list_all}
use Rattle.std.proofs.lemmas.Result.{on_ok_weaker}
use Rattle.cj_case.specs.declared.kind.Kind.TheVariants.{Far}
use Rattle.cj_case.specs.declared.leaf.Leaf.{Leaf}
use Rattle.cj_case.specs.Leaves.{plain_leaves, same_kind}
use Rattle.cj_brief.proofs.TellingLemmas.{list_longer}
use Rattle.cj_brief.proofs.telling.tell_in.Goals as goal

pub returns-clause-value : goal.returns-clause-value
returns-clause-value c =
    let leaves = c.args.leaves.now in
    on_ok_weaker c.tell.result
    (list_longer c.args.lists.now c.args.slot c.index-lists-slot.result c.tell.new.told (cond (list_all (λ (leaf : Leaf). same_kind Far leaf.kind) leaves) [] (plain_leaves leaves)) c.requires)
    c.tell.ensures

pub returns-clause-len : goal.returns-clause-len
returns-clause-len c = length-set c.args.lists.now c.args.slot c.tell.new.told
