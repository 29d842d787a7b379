use Rattle.std.proofs.Common.{ℕ, ◌*◌, ◌+◌, ◌-◌, ◌^◌, ◌<◌, ◌≤◌, arith, ap, sym, ◌∙◌, FitsSigned, to_z-of_z, rules}
use Rattle.std.proofs.Math.Nat.{mul-le-mul_left}
use Rattle.std.specs.Prelude.{ℤ, pos, ◌+ℤ◌, ◌*ℤ◌}
use Rattle.std.specs.Int.{w64}
use Rattle.cj_hermite.specs.Ready.{speed_of}
use Rattle.cj_hermite.proofs.ReachLemmas.{apart_within, between_far, middle_within, place_far, place_read, sum_far, way_far}
use Rattle.cj_hermite.proofs.ReadyLemmas.{middle_is}
use Rattle.cj_hermite.proofs.first_values.middle.Goals as goal

pub overflow_sub-at : goal.overflow_sub-at
overflow_sub-at c = c.args.at.now.inside

pub way-requires-clause-first : goal.way-requires-clause-first
way-requires-clause-first c = place_read c.args.axis.now.from c.args.axis.now.from_within

pub way-requires-clause-second : goal.way-requires-clause-second
way-requires-clause-second c = place_read c.args.axis.now.to c.args.axis.now.to_within

pub split-between-requires : goal.split-between-requires
split-between-requires c =
    let axis = c.args.axis.now in
    let f : FitsSigned w64 axis.from = search rules in
    let g : FitsSigned w64 axis.to = search rules in
    let h : FitsSigned w64 c.way.result = record { sfits = c.way.type_inv } in
    let apart = simp to_z-of_z at c.way.ensures in
    rw (to_z-of_z h, apart) (apart_within axis.from axis.to axis.from_within axis.to_within)

short : (u t : ℕ) → u ≤ t → t ≤ 3600000000 → u ≤ 3600000000
short u t h k = omega arith

rest_short : (u t : ℕ) → u ≤ t → t ≤ 3600000000 → t - u ≤ 3600000000
rest_short u t h k = omega arith

pub way_of_both-way-requires-clause-first_short : goal.way_of_both-way-requires-clause-first_short
way_of_both-way-requires-clause-first_short c = rest_short c.args.at.now.at c.args.at.now.of c.args.at.now.inside c.requires

pub way_of_both-way-requires-clause-second_short : goal.way_of_both-way-requires-clause-second_short
way_of_both-way-requires-clause-second_short c = short c.args.at.now.at c.args.at.now.of c.args.at.now.inside c.requires

pub sum-requires-clause-first : goal.sum-requires-clause-first
sum-requires-clause-first c =
    let f : FitsSigned w64 c.args.axis.now.from = search rules in
    rw (to_z-of_z f) (place_far c.args.axis.now.from c.args.axis.now.from_within)

pub sum-requires-clause-second : goal.sum-requires-clause-second
sum-requires-clause-second c =
    let f : FitsSigned w64 c.split-between.result.0 = search rules in
    rw (to_z-of_z f) (between_far c.split-between.result.0 c.split-between.ensures.within)

pub sum-whole-requires-clause-first : goal.sum-whole-requires-clause-first
sum-whole-requires-clause-first c =
    let axis = c.args.axis.now in
    let f : FitsSigned w64 axis.from = search rules in
    let g : FitsSigned w64 c.split-between.result.0 = search rules in
    let h : FitsSigned w64 c.sum.result = record { sfits = c.sum.type_inv } in
    let sum = simp to_z-of_z at c.sum.ensures in
    rw (to_z-of_z h, sum) (sum_far axis.from c.split-between.result.0 axis.from_within c.split-between.ensures.within)

pub sum-whole-requires-clause-second : goal.sum-whole-requires-clause-second
sum-whole-requires-clause-second c =
    let f : FitsSigned w64 c.way_of_both-way.result.0 = search rules in
    rw (to_z-of_z f) (way_far c.way_of_both-way.result.0 c.way_of_both-way.ensures.near)

pub once_less-requires-clause-within : goal.once_less-requires-clause-within
once_less-requires-clause-within c =
    let axis = c.args.axis.now in
    let way = c.way_of_both-way.result in
    let f : FitsSigned w64 axis.from = search rules in
    let g : FitsSigned w64 c.split-between.result.0 = search rules in
    let h : FitsSigned w64 way.0 = search rules in
    let k : FitsSigned w64 c.sum.result = record { sfits = c.sum.type_inv } in
    let sum = simp to_z-of_z at c.sum.ensures in
    let l : FitsSigned w64 c.sum-whole.result = record { sfits = c.sum-whole.type_inv } in
    let whole = simp to_z-of_z at c.sum-whole.ensures in
    rw (to_z-of_z l, whole, sum)
    (middle_within axis.from c.split-between.result.0 way.0 axis.from_within c.split-between.ensures.within c.way_of_both-way.ensures.near)

-- the parts that are left
parts : (left of e : ℕ) → left < of → of ≤ 3600000000 → e < 3000000 → (3000000 * left + of * e < 2 * (of * 3000000)) × (3000000 * left + of * e < 2 ^ 64) × (of * e < 2 ^ 64) × (3000000 * left < 2 ^ 64)
parts left of e h k l =
    let few : e ≤ 2999999 = omega arith in
    let most = mul-le-mul_left of few in
    (omega arith, omega arith, omega arith, omega arith)

pub overflow_mul-left : goal.overflow_mul-left
overflow_mul-left c = record { fits = (parts c.split-between.result.1 c.args.at.now.of c.way_of_both-way.result.1 c.split-between.ensures.rest c.requires c.way_of_both-way.ensures.rest).3 }

pub overflow_mul-at : goal.overflow_mul-at
overflow_mul-at c = record { fits = (parts c.split-between.result.1 c.args.at.now.of c.way_of_both-way.result.1 c.split-between.ensures.rest c.requires c.way_of_both-way.ensures.rest).2 }

pub overflow_add-left : goal.overflow_add-left
overflow_add-left c = record { fits = (parts c.split-between.result.1 c.args.at.now.of c.way_of_both-way.result.1 c.split-between.ensures.rest c.requires c.way_of_both-way.ensures.rest).1 }

pub once_less-requires-clause-small : goal.once_less-requires-clause-small
once_less-requires-clause-small c = (parts c.split-between.result.1 c.args.at.now.of c.way_of_both-way.result.1 c.split-between.ensures.rest c.requires c.way_of_both-way.ensures.rest).0

whole_short : (t : ℕ) → t ≤ 3600000000 → t * 3000000 < 11000000000000000
whole_short t h = omega arith

pub once_less-requires-clause-short : goal.once_less-requires-clause-short
once_less-requires-clause-short c = whole_short c.args.at.now.of c.requires

pub returns-clause-rest : goal.returns-clause-rest
returns-clause-rest c = c.once_less.ensures.rest

pub returns-clause-value : goal.returns-clause-value
returns-clause-value c =
    let axis = c.args.axis.now in
    let at = c.args.at.now in
    let left = c.split-between.result in
    let way = c.way_of_both-way.result in
    let f0 : FitsSigned w64 axis.from = search rules in
    let f1 : FitsSigned w64 axis.to = search rules in
    let f2 : FitsSigned w64 c.way.result = record { sfits = c.way.type_inv } in
    let f3 : FitsSigned w64 left.0 = search rules in
    let f4 : FitsSigned w64 way.0 = search rules in
    let f5 : FitsSigned w64 c.sum.result = record { sfits = c.sum.type_inv } in
    let f6 : FitsSigned w64 c.sum-whole.result = record { sfits = c.sum-whole.type_inv } in
    let apart = simp to_z-of_z at c.way.ensures in
    let split = simp to_z-of_z at c.split-between.ensures.whole in
    let sum = simp to_z-of_z at c.sum.ensures in
    let whole = simp to_z-of_z at c.sum-whole.ensures in
    let once = simp to_z-of_z at c.once_less.ensures.value in
    middle_is axis.from (speed_of axis.out) axis.to (speed_of axis.back) left.0 way.0 at.of at.at left.1 way.1 at.inside
    (ap (λ (z : ℤ). z *ℤ pos at.at) (sym apart) ∙ split) c.way_of_both-way.ensures.value
    ∙ ap (λ (z : ℤ). z *ℤ pos (at.of * 3000000) +ℤ pos (3000000 * left.1 + at.of * way.1)) (sym (whole ∙ ap (λ (z : ℤ). z +ℤ way.0) sum))
    ∙ once
