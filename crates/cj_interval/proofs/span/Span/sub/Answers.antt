use Rattle.std.proofs.Common.{FitsSigned, refl, rules}
use Rattle.std.specs.Prelude.{◌-ℤ◌}
use Rattle.std.specs.Int.{w128}
use Rattle.cj_interval.proofs.IntegerLemmas.{sub-le}
use Rattle.cj_interval.proofs.MachineLemmas.{difference_fits, fits_in, read_as}
use Rattle.cj_interval.proofs.span.Span.sub.Goals as goal

pub overflow_sub-result : goal.overflow_sub-result
overflow_sub-result c =
    let s = c.args.self in
    let o = c.args.other in
    let f : FitsSigned w128 s.lo = search rules in
    let g : FitsSigned w128 o.hi = search rules in
    fits_in w128 ◌-ℤ◌ s.lo o.hi (s.lo -ℤ o.hi) f g refl (difference_fits s.lo o.hi c.requires.self_low c.requires.other_high)

pub overflow_sub-result-2 : goal.overflow_sub-result-2
overflow_sub-result-2 c =
    let s = c.args.self in
    let o = c.args.other in
    let f : FitsSigned w128 s.hi = search rules in
    let g : FitsSigned w128 o.lo = search rules in
    fits_in w128 ◌-ℤ◌ s.hi o.lo (s.hi -ℤ o.lo) f g refl (difference_fits s.hi o.lo c.requires.self_high c.requires.other_low)

pub returns-clause-lower : goal.returns-clause-lower
returns-clause-lower c =
    let s = c.args.self in
    let o = c.args.other in
    let f : FitsSigned w128 s.lo = search rules in
    let g : FitsSigned w128 o.hi = search rules in
    read_as ◌-ℤ◌ s.lo o.hi (s.lo -ℤ o.hi) f g refl (difference_fits s.lo o.hi c.requires.self_low c.requires.other_high)

pub returns-clause-upper : goal.returns-clause-upper
returns-clause-upper c =
    let s = c.args.self in
    let o = c.args.other in
    let f : FitsSigned w128 s.hi = search rules in
    let g : FitsSigned w128 o.lo = search rules in
    read_as ◌-ℤ◌ s.hi o.lo (s.hi -ℤ o.lo) f g refl (difference_fits s.hi o.lo c.requires.self_high c.requires.other_low)

pub invariant_of-result : goal.invariant_of-result
invariant_of-result c =
    let s = c.args.self in
    let o = c.args.other in
    let f : FitsSigned w128 s.lo = search rules in
    let g : FitsSigned w128 o.hi = search rules in
    let h : FitsSigned w128 s.hi = search rules in
    let k : FitsSigned w128 o.lo = search rules in
    let lower = read_as ◌-ℤ◌ s.lo o.hi (s.lo -ℤ o.hi) f g refl (difference_fits s.lo o.hi c.requires.self_low c.requires.other_high) in
    let upper = read_as ◌-ℤ◌ s.hi o.lo (s.hi -ℤ o.lo) h k refl (difference_fits s.hi o.lo c.requires.self_high c.requires.other_low) in
    record { ordered = rw (lower, upper) (sub-le s.lo s.hi o.lo o.hi s.ordered o.ordered) }

pub returns-clause-encloses : goal.returns-clause-encloses
returns-clause-encloses c x y p q = record {
  low = rw (returns-clause-lower c) (sub-le c.args.self.lo x y c.args.other.hi p.low q.high);
  high = rw (returns-clause-upper c) (sub-le x c.args.self.hi c.args.other.lo y p.high q.low);
}
