use Rattle.std.proofs.Common.{arith}
use Rattle.cj_interval.proofs.FractionLemmas.{scaled_below, scaled_above}
use Rattle.cj_interval.proofs.divisors.Divisor.fraction.Goals as goal

pub invariant_of-result-clause-below : goal.invariant_of-result-clause-below
invariant_of-result-clause-below c =
    rw c.from.ensures (scaled_below c.args.self.now.inverse c.args.self.now.of _ c.args.at c.args.self.now.below (omega arith))

pub invariant_of-result-clause-above : goal.invariant_of-result-clause-above
invariant_of-result-clause-above c =
    rw c.from.ensures (scaled_above c.args.self.now.inverse c.args.self.now.of _ c.args.at c.args.self.now.above (omega arith) (omega arith) c.args.self.now.some)
