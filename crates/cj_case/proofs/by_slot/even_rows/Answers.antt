use Rattle.std.proofs.Common.{◌∙◌, ◌++◌, ◌∷◌, [], ap, map, replicate}
use Rattle.std.proofs.lemmas.List.{map_push, replicate_more}
use Rattle.cj_case.proofs.by_slot.even_rows.Goals as goal

pub loop-init : goal.loop-init
loop-init g c = ap (map (λ row. row.items)) c.in_ok-rows.ensures.items

pub loop-preserved : goal.loop-preserved
loop-preserved g c =
    ap (map (λ row. row.items)) c.in_ok-push.ensures.items ∙ map_push (λ row. row.items) c.loop.rows.items c.in_ok-row.row
    ∙ (λ i. c.loop.invariant i ++ c.in_ok-row.ensures i ∷ []) ∙ replicate_more c.loop.counter (replicate c.args.slots c.args.value)
