use Rattle.cj_case.specs.Tables.{even_table}
use Rattle.cj_case.proofs.TableLemmas.{even_everywhere, rows_even}
use Rattle.cj_case.proofs.by_slot.BySlot.of_one.Goals as goal

pub invariant_of-result : goal.invariant_of-result
invariant_of-result g c =
    rows_even (λ row. row.items) c.in_ok-rows.rows.items (even_table c.args.objects c.args.slots c.args.value) c.in_ok-rows.ensures (even_everywhere c.args.objects c.args.slots c.args.value)

pub returns : goal.returns
returns g c = λ i. record { rows = c.in_ok-rows.ensures i; slots = c.args.slots }
