use Rattle.std.proofs.Common.{ap}
use Rattle.cj_pool.specs.Hands.{HandSeen}
use Rattle.cj_pool.proofs.TurnLemmas.{wanted_same}
use Rattle.cj_pool.proofs.hand.Hand.turn.Goals as goal

pub returns-in-Err-clause-made : goal.returns-in-Err-clause-made
returns-in-Err-clause-made g c =
    let is = c.self.view_is in
    wanted_same _ _ c.attempt.new.self _
    (record { taken = ap (λ (h : HandSeen). h.taken) is; closed = ap (λ (h : HandSeen). h.closed) is; pushed = ap (λ (h : HandSeen). h.pushed) is; kept = ap (λ (h : HandSeen). h.kept) is })
    ((c.in-Err.ensures {u = tt}).made)
