use Rattle.std.proofs.Common.{◌≡◌, Bool, ◌∙◌, subst, arith}
use Rattle.std.specs.Prelude.{◌⊎◌, MatchBool}
use Rattle.cj_pool.specs.Turns.{Ended, Rose}
use Rattle.cj_pool.proofs.RunLemmas.{after_turn, told_cells}
use Rattle.cj_pool.proofs.hand.Hand.take_turns.Goals as goal

pub loop-preserved : goal.loop-preserved
loop-preserved g c =
    let i = c.loop.invariant in
    let e = c.step.ensures in
    let going = c.if-step.false in
    let old = c.loop.self in
    let new = c.step.new.self in
    record {
      hand = e.hand.0;
      same = record { number = e.hand.1.number ∙ i.same.number; problem = e.hand.1.problem ∙ i.same.problem; opening = e.hand.1.opening ∙ i.same.opening };
      wants = subst (λ (b : Bool). MatchBool b (Ended new) (new.wants ≡ old.wants)) going e.ended ∙ i.wants;
      memory = subst (λ (b : Bool). MatchBool b ((new.share.count.memory ≡ old.share.count.memory) ⊎ Rose old.wants new.wants) (new.share.count.memory ≡ old.share.count.memory)) going e.memory ∙ i.memory;
      cells = after_turn _ _ _ _ i.cells e.cells (λ some. (e.halts (omega (arith, some))).1);
    }

pub returns-then-step-clause-cells : goal.returns-then-step-clause-cells
returns-then-step-clause-cells g c =
    let i = c.loop.invariant in
    let e = c.step.ensures in
    told_cells _ _ _ (after_turn c.args.refinery.now.limit c.args.self.now.share.count c.loop.self.share.count c.step.new.self.share.count i.cells e.cells (λ some. (e.halts (omega (arith, some))).1))

pub returns-then-step-clause-ended : goal.returns-then-step-clause-ended
returns-then-step-clause-ended g c =
    let new = c.step.new.self in
    subst (λ (b : Bool). MatchBool b (Ended new) (new.wants ≡ c.loop.self.wants)) c.if-step.true c.step.ensures.ended
