use Rattle.std.proofs.Common.{◌∙◌, map, ap}
use Rattle.std.proofs.lemmas.List.{take_all}
use Rattle.cj_case.proofs.TableLemmas.{seen_more}
use Rattle.cj_case.proofs.by_slot.copies_of.Goals as goal

pub loop-row-init : goal.loop-row-init
loop-row-init g c = ap (map (λ row. row.items)) c.in_ok-copies.ensures.items

pub loop-row-preserved : goal.loop-row-preserved
loop-row-preserved g c =
    seen_more (λ row. row.items) (λ row. row.items) c.args.rows.now c.loop-row.row-index c.row-item.result c.loop-row.copies.items c.push.new.self.items c.in_ok-copy.copy
    c.loop-row-test.true c.row-item.is c.in_ok-push.ensures.items
    (c.in_ok-copy.ensures.items ∙ c.deref.ensures.value)
    c.loop-row.invariant

pub returns : goal.returns
returns g c = c.loop-row.invariant ∙ ap (map (λ row. row.items)) (take_all c.loop-row.row-index c.args.rows.now c.loop-row-test.false)
