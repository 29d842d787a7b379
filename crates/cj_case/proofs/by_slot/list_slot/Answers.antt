use Rattle.std.proofs.Common.{◌∙◌, ◌<◌, Some, map, ap, length, subst, sym, arith}
use Rattle.std.specs.Prelude.{slice_get}
use Rattle.std.proofs.lemmas.List.{take_all}
use Rattle.cj_case.proofs.TableLemmas.{seen_more, value_got}
use Rattle.cj_case.proofs.by_slot.list_slot.Goals as goal

pub index-requires : goal.index-requires
index-requires g c =
    let row = c.row-item.result in
    let whole = subst (λ r. c.args.slot < length r.items) (sym c.row-item.is) (c.requires c.loop-row.row-index row c.loop-row-test.true) in
    omega (arith, whole, row.ok.0)

pub loop-row-preserved : goal.loop-row-preserved
loop-row-preserved g c =
    let row = c.row-item.result in
    let whole = subst (λ r. c.args.slot < length r.items) (sym c.row-item.is) (c.requires c.loop-row.row-index row c.loop-row-test.true) in
    seen_more (λ r. slice_get r.items c.args.slot) Some c.args.rows.now c.loop-row.row-index row c.loop-row.here.items c.push.new.self.items c.index.result.now
    c.loop-row-test.true c.row-item.is c.in_ok-push.ensures.items
    (value_got row.items c.args.slot c.index.result.now whole c.index.ensures)
    c.loop-row.invariant

pub returns : goal.returns
returns g c = c.loop-row.invariant ∙ ap (map (λ r. slice_get r.items c.args.slot)) (take_all c.loop-row.row-index c.args.rows.now c.loop-row-test.false)
