use Rattle.std.proofs.Common.{◌∙◌, ◌++◌, ◌∷◌, [], Vec, Global, ap, arith}
use Rattle.cj_case.specs.declared.pair.Pair.{Pair}
use Rattle.cj_blocks.proofs.EnteredLemmas.{entered}
use Rattle.cj_blocks.proofs.pairs_by_object.enter.Goals as goal

pub returns-clause-lists : goal.returns-clause-lists
returns-clause-lists c k =
    let exists = c.requires.exists in
    entered c.args.lists.now.items c.args.object k c.push.new.self c.index_mut.result.now c.args.pair (omega arith)
    (c.in_ok-push.ensures.items ∙ ap (λ (list : Vec Pair Global). list.items ++ c.args.pair ∷ []) c.index_mut.ensures.value)
