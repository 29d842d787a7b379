use Rattle.std.proofs.Common.{◌∙◌, ◌<◌, All, ap, length, map, subst, sym, arith}
use Rattle.std.specs.Prelude.{slice_get}
use Rattle.cj_case.specs.Tables.{Table}
use Rattle.cj_case.proofs.TableLemmas.{slot_seen}
use Rattle.cj_case.proofs.by_slot.BySlot.in_slot.Goals as goal

pub list_slot-requires : goal.list_slot-requires
list_slot-requires g c =
    let slots = ap (λ (t : Table _). t.slots) c.self.view_is in
    subst (λ rows. All (λ row. c.args.slot < length row.items) rows) (sym c.deref.ensures.value)
    (λ k d lt. let whole = c.self.invariant k d lt in omega (arith, whole, slots, c.requires))

pub returns : goal.returns
returns g c =
    c.in_ok-list_slot.ensures ∙ ap (map (λ row. slice_get row.items c.args.slot)) c.deref.ensures.value ∙ slot_seen (λ row. row.items) c.self.inside.rows.items c.args.slot
    ∙ ap (λ (t : Table _). map (λ row. slice_get row c.args.slot) t.rows) c.self.view_is
