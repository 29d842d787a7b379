use Rattle.std.proofs.Common.{rules, ◌<◌, arith}
use Rattle.cj_ledger.proofs.StepLemmas.{sets_cells, sets_memory}
use Rattle.cj_ledger.proofs.ledger.Ledger.halt.Goals as goal

pub fetch_or-requires : goal.fetch_or-requires
fetch_or-requires c =
    let table = c.self.inside.table.shared in
    let seat = c.share.inside.seat in
    let some_part : 0 < seat.me.0.parts = omega (arith, c.share.invariant.0) in
    (search rules, search rules, sets_cells table.key table.table_id.slots seat.id seat.me.0 seat.me.1 some_part)

pub fetch_or-requires-in-Memory : goal.fetch_or-requires-in-Memory
fetch_or-requires-in-Memory c =
    let table = c.self.inside.table.shared in
    let seat = c.share.inside.seat in
    let some_part : 0 < seat.me.0.parts = omega (arith, c.share.invariant.0) in
    (search rules, search rules, sets_memory table.key table.table_id.slots seat.id seat.me.0 seat.me.1 some_part)
