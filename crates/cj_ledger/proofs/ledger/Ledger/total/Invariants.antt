use Rattle.std.proofs.Common.{◌≡◌, ◌+◌, ◌<◌, [], vec_len, All}
use Rattle.std.specs.List.{sum_by}
use Rattle.cj_ledger.specs.Shares.{IsOf}
use Rattle.cj_ledger.proofs.ledger.Ledger.total.Given as goal

abbrev pub invariant-loop-share : goal.invariant-loop-share
invariant-loop-share l =
    (l.seat.table_id ≡ l.self-inside.table.shared.table_id)
    × (l.seat.me.1 ≡ [])
    × All (IsOf record { id = l.self-inside.table.shared.table_id; opening = l.self-inside.opening }) l.shares.items
    × (l.seat.me.0.opening ≡ l.self-inside.opening)
    × (l.seat.me.0.parts + vec_len l.shares ≡ l.self-inside.opening.shares)
    × (0 < l.seat.me.0.parts)
    × (l.seat.me.0.firsts ≡ l.seat.me.0.seconds)
    × (l.seat.me.0.roots + sum_by (λ s. s.count.roots) l.shares.items ≡ sum_by (λ s. s.count.roots) l.fn.shares.items)
    × (l.seat.me.0.firsts + sum_by (λ s. s.count.firsts) l.shares.items ≡ sum_by (λ s. s.count.firsts) l.fn.shares.items)
    × (l.seat.me.0.closes + sum_by (λ s. s.count.closes) l.shares.items ≡ sum_by (λ s. s.count.closes) l.fn.shares.items)

abbrev pub decreases-loop-share : goal.decreases-loop-share
decreases-loop-share l = goal.left-loop-share l
