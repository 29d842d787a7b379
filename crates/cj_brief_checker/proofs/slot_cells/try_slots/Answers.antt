use Rattle.std.proofs.Common.{◌∙◌, sym, arith}
use Rattle.cj_brief_checker.proofs.slot_cells.try_slots.Goals as goal

pub returns : goal.returns
returns g c =
    let done = c.in_ok-tries.ensures in
    record {
      many = sym c.in_ok-tries.tries.ok.0 ∙ done.len ∙ c.slot_count-slots.ensures;
      each = λ slot d lt. (done.each slot d (omega (arith, lt, c.slot_count-slots.ensures))).1.met;
    }
