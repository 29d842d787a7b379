use Rattle.std.proofs.Common.{◌≡◌, ◌∙◌, ap, length, map}
use Rattle.cj_case.proofs.TableLemmas.{all_seen, rows_even}
use Rattle.cj_case.proofs.by_slot.BySlot.copied.Goals as goal

pub invariant_of-result : goal.invariant_of-result
invariant_of-result g c =
    rows_even (λ row. row.items) c.in_ok-rows.rows.items (record { rows = map (λ row. row.items) c.self.inside.rows.items; slots = c.self.inside.slots })
    (c.in_ok-rows.ensures ∙ ap (map (λ row. row.items)) c.deref.ensures.value)
    (all_seen (λ row. length row ≡ c.self.inside.slots) (λ row. row.items) c.self.inside.rows.items c.self.invariant)

pub returns : goal.returns
returns g c =
    let rows = c.in_ok-rows.ensures ∙ ap (map (λ row. row.items)) c.deref.ensures.value in
    (λ i. record { rows = rows i; slots = c.self.inside.slots }) ∙ c.self.view_is
