use Rattle.std.proofs.Common.{rules}
use Rattle.cj_ledger.proofs.StepLemmas.{cuts_off}
use Rattle.cj_ledger.proofs.ledger.Ledger.part_of.Goals as goal

pub split_seat-requires : goal.split_seat-requires
split_seat-requires c =
    let key = c.self.inside.table.shared.key in
    let seat = c.args.seat.now in
    (search rules, search rules, cuts_off key seat.id seat.me.0 c.requires.more)
