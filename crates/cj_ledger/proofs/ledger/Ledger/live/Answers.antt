use Rattle.std.proofs.Common.{rules, ◌<◌, arith}
use Rattle.cj_ledger.proofs.StepLemmas.{loads_live}
use Rattle.cj_ledger.proofs.ledger.Ledger.live.Goals as goal

pub load-requires : goal.load-requires
load-requires c =
    let table = c.self.inside.table.shared in
    let seat = c.share.inside.seat in
    let some_part : 0 < seat.me.0.parts = omega (arith, c.share.invariant.0) in
    (search rules, search rules, loads_live table.key table.table_id.slots seat.id seat.me.0 seat.me.1 some_part)
