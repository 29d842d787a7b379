use Rattle.std.proofs.Common.{rules, ◌≡◌, ◌<◌, ◌+◌, arith, ap}
use Rattle.cj_ledger.specs.Counts.{after_first}
use Rattle.cj_ledger.specs.declared.count.Count.{Count}
use Rattle.cj_ledger.proofs.StepLemmas.{adds_live, adds_leaf}
use Rattle.cj_ledger.proofs.ledger.Ledger.split.Goals as goal

pub fetch_add-requires : goal.fetch_add-requires
fetch_add-requires c =
    let table = c.self.inside.table.shared in
    let seat = c.share.inside.seat in
    let some_part : 0 < seat.me.0.parts = omega (arith, c.share.invariant.0) in
    (search rules, search rules, adds_live table.key table.table_id.slots seat.id seat.me.0 seat.me.1 some_part c.share.invariant.1)

pub fetch_add-requires-2 : goal.fetch_add-requires-2
fetch_add-requires-2 c =
    let table = c.self.inside.table.shared in
    let before = c.share.inside.seat.me.0 in
    let seat = c.fetch_add.new.seat in
    let me : seat.me.0 ≡ after_first before = ap (λ m. m.0) c.fetch_add.ensures.2 in
    let parts : seat.me.0.parts ≡ before.parts = ap (λ (v : Count). v.parts) me in
    let firsts : seat.me.0.firsts ≡ before.firsts + 1 = ap (λ (v : Count). v.firsts) me in
    let seconds : seat.me.0.seconds ≡ before.seconds = ap (λ (v : Count). v.seconds) me in
    let some_part : 0 < seat.me.0.parts = omega (arith, parts, c.share.invariant.0) in
    let odd : seat.me.0.firsts ≡ seat.me.0.seconds + 1 = omega (arith, firsts, seconds, c.share.invariant.1) in
    (search rules, search rules, adds_leaf table.key table.table_id.slots seat.id seat.me.0 seat.me.1 some_part odd)
