use Rattle.std.proofs.Common.{◌≡◌}
use Rattle.cj_pool.specs.Hands.{IsHandOf, SameHand}
use Rattle.cj_pool.proofs.RunLemmas.{StoppedFor}
use Rattle.cj_pool.proofs.hand.Hand.take_turns.Given as goal

abbrev pub invariant-loop : goal.invariant-loop
invariant-loop g l = record {
  hand : IsHandOf l.refinery l.self;
  same : SameHand l.initial.self l.self;
  wants : l.self.wants ≡ l.initial.self.wants;
  memory : l.self.share.count.memory ≡ l.initial.self.share.count.memory;
  cells : StoppedFor l.refinery.limit l.initial.self.share.count l.self.share.count;
}
