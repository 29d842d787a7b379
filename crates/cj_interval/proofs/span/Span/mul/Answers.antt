use Rattle.std.proofs.Common.{FitsSigned, to_z-of_z, rules}
use Rattle.std.specs.Int.{w128}
use Rattle.cj_interval.proofs.RoundingLemmas.{product_of_spans, least-le, le-greatest}
use Rattle.cj_interval.proofs.IntegerLemmas.{le_trans_ℤ}
use Rattle.cj_interval.proofs.span.Span.mul.Goals as goal

pub invariant_of-result : goal.invariant_of-result
invariant_of-result c =
    let k : FitsSigned w128 c.product_ends-lo.result.0 = search rules in
    let m : FitsSigned w128 c.product_ends-lo.result.1 = search rules in
    record { ordered = rw (to_z-of_z k, to_z-of_z m, c.product_ends-lo.ensures.lower, c.product_ends-lo.ensures.upper) (le_trans_ℤ _ _ _ (least-le _ _ _ _).0 (le-greatest _ _ _ _).0) }

pub returns-clause-encloses : goal.returns-clause-encloses
returns-clause-encloses c x y p q =
    let k : FitsSigned w128 c.product_ends-lo.result.0 = search rules in
    let m : FitsSigned w128 c.product_ends-lo.result.1 = search rules in
    rw (to_z-of_z k, to_z-of_z m, c.product_ends-lo.ensures.lower, c.product_ends-lo.ensures.upper)
    (product_of_spans c.args.self.lo c.args.self.hi c.args.other.lo c.args.other.hi x y p q)
