use Rattle.std.proofs.Common.{inl, ◌≡◌, inr, refl, sym, ap, ◌∙◌, arith}
use Rattle.cj_case.specs.Problems.{plain_problem}
use Rattle.cj_pool.proofs.TurnLemmas.{last_ended, last_or_not, told_to_stop, still_after}
use Rattle.cj_pool.specs.declared.turn.Turn.TheVariants.{Halted}
use Rattle.cj_ledger.specs.declared.count.Count.{Count}
use Rattle.cj_pool.specs.Hands.{RefinerySeen, HandSeen}
use Rattle.cj_pool.proofs.AccountLemmas.{same_accounts}
use Rattle.cj_pool.proofs.hand.Hand.step.Goals as goal

pub returns-in-Ok : goal.returns-in-Ok
returns-in-Ok g c =
    let e = c.in-Ok.ensures {u = tt} in
    let last = c.is_last.ensures in
    let case = plain_problem g.K.Run.problem in
    record {
      hand = e.hand;
      ended = last_or_not c.is_last.result _ _
          (λ is. last_ended case c.args.refinery.now c.args.self.now c.turn.new.self c.in-Ok.turn (last.others is) e.made) e.wants;
      memory = last_or_not c.is_last.result _ _ (λ _. inl e.memory) e.memory;
      cells = e.cells;
      halts = λ some.
          let told = e.halts some in
          let is : c.in-Ok.turn ≡ Halted told.0 = cc told.1 in
          let stop = told_to_stop case c.args.refinery.now c.args.self.now c.turn.new.self c.in-Ok.turn (told.0, is) e.made in
          (last.halted stop.why stop.is, stop.leaves);
    }

pub halt-requires : goal.halt-requires
halt-requires g c =
    let hand = c.self.view_is in
    let refinery = c.refinery.view_is in
    let is = c.turn.ensures.hand.0.1 in (
      ap (λ (h : HandSeen). h.share.ledger) hand ∙ is.0 ∙ sym (ap (λ (r : RefinerySeen). r.ledger.id) refinery),
      ap (λ (h : HandSeen). h.share.count.opening) hand ∙ is.1 ∙ sym (ap (λ (r : RefinerySeen). r.ledger.opening) refinery),
    )

pub invariant_of-self : goal.invariant_of-self
invariant_of-self g c =
    let inv = c.self.invariant in (
      inv.0,
      inv.1,
      inv.2,
      inv.3,
      inv.4,
      same_accounts (plain_problem g.K.Run.problem) g.K.Run.roots g.K.Run.workers _ _ inv.5 (record { number = refl; problem = refl; opening = refl }) refl
          (record { taken = refl; closed = refl; pushed = refl; kept = refl })
          (omega (arith, ap (λ (v : Count). v.closes) c.halt.ensures.count))
          (ap (λ (v : Count). v.firsts) c.halt.ensures.count),
    )

pub returns-in-Err-clause-hand : goal.returns-in-Err-clause-hand
returns-in-Err-clause-hand g c =
    let mine = c.turn.ensures.hand.0.1 in
    let ledger = c.halt.ensures.ledger ∙ ap (λ (h : HandSeen). h.share.ledger) c.self.view_is ∙ mine.0 in
    let opening = ap (λ (v : Count). v.opening) c.halt.ensures.count ∙ ap (λ (h : HandSeen). h.share.count.opening) c.self.view_is ∙ mine.1 in
    still_after c.args.refinery.now _ _ _ _ c.self.view_is c.turn.ensures.hand refl (ledger, opening) (record { number = refl; problem = refl; opening = refl })

pub returns-in-Err-clause-ended : goal.returns-in-Err-clause-ended
returns-in-Err-clause-ended g c = inr (inr (omega (arith, ap (λ (v : Count). v.memory) c.halt.ensures.count)))
