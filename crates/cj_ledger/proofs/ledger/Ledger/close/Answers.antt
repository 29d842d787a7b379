use Rattle.std.proofs.Common.{rules, ◌<◌, arith}
use Rattle.cj_ledger.proofs.StepLemmas.{closes}
use Rattle.cj_ledger.proofs.ledger.Ledger.close.Goals as goal

pub fetch_sub-requires : goal.fetch_sub-requires
fetch_sub-requires c =
    let table = c.self.inside.table.shared in
    let seat = c.share.inside.seat in
    let some_part : 0 < seat.me.0.parts = omega (arith, c.share.invariant.0) in
    (search rules, search rules, closes table.key table.table_id.slots seat.id seat.me.0 seat.me.1 some_part c.args.cells (search rules))
