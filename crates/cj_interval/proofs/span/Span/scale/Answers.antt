use Rattle.std.proofs.Common.{◌*ℤ◌, pos, FitsSigned, rules, refl}
use Rattle.std.specs.Int.{w128}
use Rattle.cj_interval.proofs.IntegerLemmas.{mul-le_right}
use Rattle.cj_interval.proofs.MachineLemmas.{fits_in, read_as, under}
use Rattle.cj_interval.proofs.span.Span.scale.Goals as goal

pub overflow_mul-result : goal.overflow_mul-result
overflow_mul-result c =
    let f : FitsSigned w128 c.args.self.lo = search rules in
    fits_in w128 ◌*ℤ◌ c.args.self.lo c.from-factor.result (c.args.self.lo *ℤ pos c.args.by) f (record { sfits = c.from-factor.type_inv }) (rw c.from-factor.ensures refl) (under (c.args.self.lo *ℤ pos c.args.by) c.requires.low)

pub overflow_mul-result-2 : goal.overflow_mul-result-2
overflow_mul-result-2 c =
    let f : FitsSigned w128 c.args.self.hi = search rules in
    fits_in w128 ◌*ℤ◌ c.args.self.hi c.from-factor.result (c.args.self.hi *ℤ pos c.args.by) f (record { sfits = c.from-factor.type_inv }) (rw c.from-factor.ensures refl) (under (c.args.self.hi *ℤ pos c.args.by) c.requires.high)

pub returns-clause-lower : goal.returns-clause-lower
returns-clause-lower c =
    let f : FitsSigned w128 c.args.self.lo = search rules in
    read_as ◌*ℤ◌ c.args.self.lo c.from-factor.result _ f (record { sfits = c.from-factor.type_inv }) (rw c.from-factor.ensures refl) (under (c.args.self.lo *ℤ pos c.args.by) c.requires.low)

pub returns-clause-upper : goal.returns-clause-upper
returns-clause-upper c =
    let f : FitsSigned w128 c.args.self.hi = search rules in
    read_as ◌*ℤ◌ c.args.self.hi c.from-factor.result _ f (record { sfits = c.from-factor.type_inv }) (rw c.from-factor.ensures refl) (under (c.args.self.hi *ℤ pos c.args.by) c.requires.high)

pub invariant_of-result : goal.invariant_of-result
invariant_of-result c =
    let f : FitsSigned w128 c.args.self.lo = search rules in
    let g : FitsSigned w128 c.args.self.hi = search rules in
    let h : FitsSigned w128 c.from-factor.result = record { sfits = c.from-factor.type_inv } in
    let lower = read_as ◌*ℤ◌ c.args.self.lo c.from-factor.result (c.args.self.lo *ℤ pos c.args.by) f h (rw c.from-factor.ensures refl) (under (c.args.self.lo *ℤ pos c.args.by) c.requires.low) in
    let upper = read_as ◌*ℤ◌ c.args.self.hi c.from-factor.result (c.args.self.hi *ℤ pos c.args.by) g h (rw c.from-factor.ensures refl) (under (c.args.self.hi *ℤ pos c.args.by) c.requires.high) in
    record { ordered = rw (lower, upper) (mul-le_right c.args.self.lo c.args.self.hi c.args.by c.args.self.ordered) }

pub returns-clause-encloses : goal.returns-clause-encloses
returns-clause-encloses c x h = record {
  low = rw (returns-clause-lower c) (mul-le_right c.args.self.lo x c.args.by h.low);
  high = rw (returns-clause-upper c) (mul-le_right x c.args.self.hi c.args.by h.high);
}
