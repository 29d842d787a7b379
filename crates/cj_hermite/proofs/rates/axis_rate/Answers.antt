use Rattle.std.proofs.Common.{pos, FitsSigned, to_z-of_z, rules, ◌∙◌, slice_index_or}
use Rattle.std.specs.Int.{w128}
use Rattle.cj_hermite.specs.Interpolant.{four_of}
use Rattle.cj_hermite.proofs.RateLemmas.{rate_holds, rate-width}
use Rattle.cj_hermite.proofs.rates.axis_rate.Goals as goal

pub difference-first-requires-clause-first : goal.difference-first-requires-clause-first
difference-first-requires-clause-first c =
    let f : FitsSigned w128 (slice_index_or c.args.k.now 0 (pos 0)) = search rules in
    rw (to_z-of_z f) c.requires.controls.k0

pub difference-first-requires-clause-second : goal.difference-first-requires-clause-second
difference-first-requires-clause-second c =
    let f : FitsSigned w128 (slice_index_or c.args.k.now 1 (pos 0)) = search rules in
    rw (to_z-of_z f) c.requires.controls.k1

pub difference-second-requires-clause-first : goal.difference-second-requires-clause-first
difference-second-requires-clause-first c =
    let f : FitsSigned w128 (slice_index_or c.args.k.now 1 (pos 0)) = search rules in
    rw (to_z-of_z f) c.requires.controls.k1

pub difference-second-requires-clause-second : goal.difference-second-requires-clause-second
difference-second-requires-clause-second c =
    let f : FitsSigned w128 (slice_index_or c.args.k.now 2 (pos 0)) = search rules in
    rw (to_z-of_z f) c.requires.controls.k2

pub difference-third-requires-clause-first : goal.difference-third-requires-clause-first
difference-third-requires-clause-first c =
    let f : FitsSigned w128 (slice_index_or c.args.k.now 2 (pos 0)) = search rules in
    rw (to_z-of_z f) c.requires.controls.k2

pub difference-third-requires-clause-second : goal.difference-third-requires-clause-second
difference-third-requires-clause-second c =
    let f : FitsSigned w128 (slice_index_or c.args.k.now 3 (pos 0)) = search rules in
    rw (to_z-of_z f) c.requires.controls.k3

pub from_differences-before-requires : goal.from_differences-before-requires
from_differences-before-requires c =
    let f : FitsSigned w128 c.difference-first.result = record { sfits = c.difference-first.type_inv } in
    let g : FitsSigned w128 c.difference-second.result = record { sfits = c.difference-second.type_inv } in
    record {
      some = c.requires.some;
      short = c.requires.short;
      inside = c.requires.inside;
      first = rw (to_z-of_z f) c.difference-first.ensures.within;
      second = rw (to_z-of_z g) c.difference-second.ensures.within;
    }

pub from_differences-after-requires : goal.from_differences-after-requires
from_differences-after-requires c =
    let f : FitsSigned w128 c.difference-second.result = record { sfits = c.difference-second.type_inv } in
    let g : FitsSigned w128 c.difference-third.result = record { sfits = c.difference-third.type_inv } in
    record {
      some = c.requires.some;
      short = c.requires.short;
      inside = c.requires.inside;
      first = rw (to_z-of_z f) c.difference-second.ensures.within;
      second = rw (to_z-of_z g) c.difference-third.ensures.within;
    }

pub from_rates-requires : goal.from_rates-requires
from_rates-requires c = record {
  some = c.requires.some;
  short = c.requires.short;
  inside = c.requires.inside;
  first = c.from_differences-before.ensures.within;
  second = c.from_differences-after.ensures.within;
}

pub returns-clause-within : goal.returns-clause-within
returns-clause-within c = c.from_rates.ensures.within

pub returns-clause-value : goal.returns-clause-value
returns-clause-value c =
    let f0 : FitsSigned w128 (slice_index_or c.args.k.now 0 (pos 0)) = search rules in
    let f1 : FitsSigned w128 (slice_index_or c.args.k.now 1 (pos 0)) = search rules in
    let f2 : FitsSigned w128 (slice_index_or c.args.k.now 2 (pos 0)) = search rules in
    let f3 : FitsSigned w128 (slice_index_or c.args.k.now 3 (pos 0)) = search rules in
    let g1 : FitsSigned w128 c.difference-first.result = record { sfits = c.difference-first.type_inv } in
    let g2 : FitsSigned w128 c.difference-second.result = record { sfits = c.difference-second.type_inv } in
    let g3 : FitsSigned w128 c.difference-third.result = record { sfits = c.difference-third.type_inv } in
    let e1 = simp to_z-of_z at c.difference-first.ensures.value in
    let e2 = simp to_z-of_z at c.difference-second.ensures.value in
    let e3 = simp to_z-of_z at c.difference-third.ensures.value in
    let bl = simp to_z-of_z at c.from_differences-before.ensures.lower in
    let bu = simp to_z-of_z at c.from_differences-before.ensures.upper in
    let al = simp to_z-of_z at c.from_differences-after.ensures.lower in
    let au = simp to_z-of_z at c.from_differences-after.ensures.upper in
    record {
      lower = c.from_rates.ensures.lower ∙ simp (bl, al, e1, e2, e3);
      upper = c.from_rates.ensures.upper ∙ simp (bu, au, e1, e2, e3);
    }

pub returns-clause-holds : goal.returns-clause-holds
returns-clause-holds c = rate_holds (four_of c.args.k.now) c.args.span c.args.at c.from_rates.result c.requires.some (returns-clause-value c)

pub returns-clause-narrow : goal.returns-clause-narrow
returns-clause-narrow c =
    let v = returns-clause-value c in
    rw (v.lower, v.upper) (rate-width (four_of c.args.k.now) c.args.span c.args.at c.requires.some c.requires.inside)
