use Rattle.std.proofs.Common.{rules, ◌<◌, arith}
use Rattle.cj_ledger.proofs.StepLemmas.{closes_and_splits}
use Rattle.cj_ledger.proofs.ledger.Ledger.close_and_split.Goals as goal

pub fetch_add-requires : goal.fetch_add-requires
fetch_add-requires c =
    let table = c.self.inside.table.shared in
    let seat = c.share.inside.seat in
    let some_part : 0 < seat.me.0.parts = omega (arith, c.share.invariant.0) in
    (search rules, search rules, closes_and_splits table.key table.table_id.slots seat.id seat.me.0 seat.me.1 some_part c.share.invariant.1)
