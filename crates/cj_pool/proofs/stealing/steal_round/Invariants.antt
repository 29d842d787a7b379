use Rattle.std.proofs.Common.{◌≡◌}
use Rattle.cj_pool.specs.Passes.{deques, takens, AreReady}
use Rattle.cj_pool.proofs.stealing.steal_round.Given as goal

abbrev pub invariant-loop-at : goal.invariant-loop-at
invariant-loop-at g l =
    (deques l.passes.items ≡ deques l.fn.passes.items)
    × AreReady l.passes.items
    × (takens l.passes.items ≡ takens l.fn.passes.items)
