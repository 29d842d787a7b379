use Rattle.std.proofs.Common.{◌≡◌, ◌∙◌, ◌<◌, length, map, slice_set, ap, subst, sym, arith}
use Rattle.std.proofs.lemmas.List.{length-map}
use Rattle.cj_case.specs.Tables.{IsEven, Table, filled, filled_row}
use Rattle.cj_case.proofs.TableLemmas.{all_seen, all_set, length-filled_row, row_seen, seen_set}
use Rattle.cj_case.proofs.by_slot.BySlot.fill.Goals as goal

pub fill_row-requires : goal.fill_row-requires
fill_row-requires g c =
    let rows = c.self.inside.rows.items in
    let many = ap (λ (t : Table _). length t.rows) c.self.view_is in
    let wide = ap (λ (t : Table _). t.slots) c.self.view_is in
    let exists : c.args.object < length rows = omega (arith, many, length-map rows (λ row. row.items), c.requires.object) in
    let whole = subst (λ row. length row.items ≡ c.self.inside.slots) (sym c.index_mut-row.ensures.value) (c.self.invariant c.args.object c.index_mut-row.result.now exists) in
    omega (arith, whole, wide, c.requires.within)

pub invariant_of-self : goal.invariant_of-self
invariant_of-self g c =
    let rows = c.self.inside.rows.items in
    let many = ap (λ (t : Table _). length t.rows) c.self.view_is in
    let wide = ap (λ (t : Table _). t.slots) c.self.view_is in
    let exists : c.args.object < length rows = omega (arith, many, length-map rows (λ row. row.items), c.requires.object) in
    let whole = subst (λ row. length row.items ≡ c.self.inside.slots) (sym c.index_mut-row.ensures.value) (c.self.invariant c.args.object c.index_mut-row.result.now exists) in
    all_set (λ row. length row.items ≡ c.self.inside.slots) rows c.args.object c.fill_row.new.row c.self.invariant
    (ap length c.fill_row.ensures ∙ length-filled_row c.index_mut-row.result.now.items c.args.first c.args.count c.args.value (omega (arith, whole, wide, c.requires.within)) ∙ whole)

pub returns-clause-value : goal.returns-clause-value
returns-clause-value g c =
    let rows = c.self.inside.rows.items in
    let many = ap (λ (t : Table _). length t.rows) c.self.view_is in
    let exists : c.args.object < length rows = omega (arith, many, length-map rows (λ row. row.items), c.requires.object) in
    let read = ap (λ row. row.items) c.index_mut-row.ensures.value ∙ sym (row_seen (λ row. row.items) rows c.args.object c.index_mut-row.result.now exists) in
    let new = seen_set (λ row. row.items) rows c.args.object c.fill_row.new.row
    ∙ ap (λ row. slice_set (map (λ row. row.items) rows) c.args.object row) (c.fill_row.ensures ∙ ap (filled_row c.args.first c.args.count c.args.value) read) in
    (λ i. record { rows = new i; slots = c.self.inside.slots }) ∙ ap (filled c.args.object c.args.first c.args.count c.args.value) c.self.view_is

pub returns-clause-even : goal.returns-clause-even
returns-clause-even g c = subst (λ t. IsEven t) c.self.view_is (all_seen (λ row. length row ≡ c.self.inside.slots) (λ row. row.items) c.self.inside.rows.items c.self.invariant)
