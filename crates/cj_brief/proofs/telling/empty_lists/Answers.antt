use Rattle.std.proofs.Common.{◌∙◌, ◌++◌, ◌∷◌, [], ap}
use Rattle.std.proofs.lemmas.List.{map_push, replicate_more}
use Rattle.cj_case.specs.Leaves.{plain_leaves}
use Rattle.cj_brief.specs.Telling.{plain_lists}
use Rattle.cj_brief.proofs.telling.empty_lists.Goals as goal

pub loop-init : goal.loop-init
loop-init c = ap plain_lists c.in_ok-lists.ensures.items

pub loop-preserved : goal.loop-preserved
loop-preserved c =
    ap plain_lists c.in_ok-push.ensures.items ∙ map_push (λ list. plain_leaves list.items) c.loop.lists.items c.new-list.result
    ∙ (λ i. c.loop.invariant i ++ plain_leaves (c.new-list.ensures.items i) ∷ []) ∙ replicate_more c.loop.counter []
