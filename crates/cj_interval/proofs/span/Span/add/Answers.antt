use Rattle.std.proofs.Common.{FitsSigned, refl, rules}
use Rattle.std.specs.Prelude.{◌+ℤ◌}
use Rattle.std.specs.Int.{w128}
use Rattle.cj_interval.proofs.IntegerLemmas.{add-le_ℤ}
use Rattle.cj_interval.proofs.MachineLemmas.{fits_in, read_as, sum_fits}
use Rattle.cj_interval.proofs.span.Span.add.Goals as goal

pub overflow_add-result : goal.overflow_add-result
overflow_add-result c =
    let s = c.args.self in
    let o = c.args.other in
    let f : FitsSigned w128 s.lo = search rules in
    let g : FitsSigned w128 o.lo = search rules in
    fits_in w128 ◌+ℤ◌ s.lo o.lo (s.lo +ℤ o.lo) f g refl (sum_fits s.lo o.lo c.requires.self_low c.requires.other_low)

pub overflow_add-result-2 : goal.overflow_add-result-2
overflow_add-result-2 c =
    let s = c.args.self in
    let o = c.args.other in
    let f : FitsSigned w128 s.hi = search rules in
    let g : FitsSigned w128 o.hi = search rules in
    fits_in w128 ◌+ℤ◌ s.hi o.hi (s.hi +ℤ o.hi) f g refl (sum_fits s.hi o.hi c.requires.self_high c.requires.other_high)

pub returns-clause-lower : goal.returns-clause-lower
returns-clause-lower c =
    let s = c.args.self in
    let o = c.args.other in
    let f : FitsSigned w128 s.lo = search rules in
    let g : FitsSigned w128 o.lo = search rules in
    read_as ◌+ℤ◌ s.lo o.lo (s.lo +ℤ o.lo) f g refl (sum_fits s.lo o.lo c.requires.self_low c.requires.other_low)

pub returns-clause-upper : goal.returns-clause-upper
returns-clause-upper c =
    let s = c.args.self in
    let o = c.args.other in
    let f : FitsSigned w128 s.hi = search rules in
    let g : FitsSigned w128 o.hi = search rules in
    read_as ◌+ℤ◌ s.hi o.hi (s.hi +ℤ o.hi) f g refl (sum_fits s.hi o.hi c.requires.self_high c.requires.other_high)

pub invariant_of-result : goal.invariant_of-result
invariant_of-result c =
    let s = c.args.self in
    let o = c.args.other in
    let f : FitsSigned w128 s.lo = search rules in
    let g : FitsSigned w128 o.lo = search rules in
    let h : FitsSigned w128 s.hi = search rules in
    let k : FitsSigned w128 o.hi = search rules in
    let lower = read_as ◌+ℤ◌ s.lo o.lo (s.lo +ℤ o.lo) f g refl (sum_fits s.lo o.lo c.requires.self_low c.requires.other_low) in
    let upper = read_as ◌+ℤ◌ s.hi o.hi (s.hi +ℤ o.hi) h k refl (sum_fits s.hi o.hi c.requires.self_high c.requires.other_high) in
    record { ordered = rw (lower, upper) (add-le_ℤ s.lo s.hi o.lo o.hi s.ordered o.ordered) }

pub returns-clause-encloses : goal.returns-clause-encloses
returns-clause-encloses c x y p q = record {
  low = rw (returns-clause-lower c) (add-le_ℤ c.args.self.lo x c.args.other.lo y p.low q.low);
  high = rw (returns-clause-upper c) (add-le_ℤ x c.args.self.hi y c.args.other.hi p.high q.high);
}
