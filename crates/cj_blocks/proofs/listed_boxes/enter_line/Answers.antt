use Rattle.std.proofs.Common.{◌-◌, ◌∙◌, Some, ap, length, subst, sym, arith}
use Rattle.std.specs.Prelude.{Option}
use Rattle.cj_case.specs.Tables.{IsEven, Table}
use Rattle.cj_case.specs.declared.axis_box.AxisBox.{AxisBox}
use Rattle.cj_case.proofs.TableLemmas.{filled_even, filled_objects}
use Rattle.cj_blocks.specs.Entered.{IsEntered}
use Rattle.cj_blocks.proofs.EnterLemmas.{ends_not_before, ends_within, line_entered}
use Rattle.cj_blocks.proofs.listed_boxes.enter_line.Goals as goal

pub fill-requires-clause-object : goal.fill-requires-clause-object
fill-requires-clause-object c = omega (arith, c.objects.ensures.value)

pub fill-requires-clause-within : goal.fill-requires-clause-within
fill-requires-clause-within c = omega (arith, c.slots.ensures.value, c.min-end.ensures)

pub returns-clause-boxes : goal.returns-clause-boxes
returns-clause-boxes c =
    let line = c.args.line.now in
    let old = c.args.boxes.now in
    let end = c.min-end.result in
    subst (λ (t : Table (Option AxisBox)). IsEntered line old t) (sym c.fill.ensures.value)
    (line_entered line end old c.slots.ensures.even (omega (arith, c.objects.ensures.value)) (omega arith) (omega (arith, c.slots.ensures.value, c.min-end.ensures))
    (λ slot lt below. ends_within line.last c.slots.result c.saturating_add.result end slot c.min-end.ensures c.saturating_add.ensures below)
    (λ slot lt upto. ends_not_before line.last c.slots.result c.saturating_add.result end slot c.min-end.ensures c.saturating_add.ensures (omega arith) (omega (arith, c.slots.ensures.value, lt)) upto))

pub returns-clause-objects : goal.returns-clause-objects
returns-clause-objects c =
    let line = c.args.line.now in
    ap (λ (t : Table (Option AxisBox)). length t.rows) c.fill.ensures.value ∙ filled_objects line.object line.first (c.min-end.result - line.first) (Some line.area) c.args.boxes.now

pub returns-clause-slots : goal.returns-clause-slots
returns-clause-slots c = ap (λ (t : Table (Option AxisBox)). t.slots) c.fill.ensures.value

pub returns-clause-even : goal.returns-clause-even
returns-clause-even c =
    let line = c.args.line.now in
    subst (λ (t : Table (Option AxisBox)). IsEven t) (sym c.fill.ensures.value)
    (filled_even line.object line.first (c.min-end.result - line.first) (Some line.area) c.args.boxes.now c.slots.ensures.even (omega (arith, c.objects.ensures.value))
    (omega (arith, c.slots.ensures.value, c.min-end.ensures)))
