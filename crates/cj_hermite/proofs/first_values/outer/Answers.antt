use Rattle.std.proofs.Common.{ap, ◌∙◌, FitsSigned, to_z-of_z, rules}
use Rattle.std.specs.Prelude.{ℤ, pos, ◌+ℤ◌}
use Rattle.std.specs.Int.{w64}
use Rattle.cj_interval.proofs.FractionLemmas.{floor_div-unique, ceil_div-rounded}
use Rattle.cj_hermite.specs.Ready.{speed_of}
use Rattle.cj_hermite.proofs.ReachLemmas.{outer_within, place_far, way_far}
use Rattle.cj_hermite.proofs.ReadyLemmas.{moved}
use Rattle.cj_hermite.proofs.first_values.outer.Goals as goal

pub sum-requires-clause-first : goal.sum-requires-clause-first
sum-requires-clause-first c =
    let f : FitsSigned w64 c.args.place = c.ranges.place in
    rw (to_z-of_z f) (place_far c.args.place c.requires.within)

pub sum-requires-clause-second : goal.sum-requires-clause-second
sum-requires-clause-second c =
    let g : FitsSigned w64 c.way_of-way.result.0 = search rules in
    rw (to_z-of_z g) (way_far c.way_of-way.result.0 c.way_of-way.ensures.near)

pub bounds-requires-clause-low : goal.bounds-requires-clause-low
bounds-requires-clause-low c =
    let way = c.way_of-way.result in
    let f : FitsSigned w64 c.args.place = c.ranges.place in
    let g : FitsSigned w64 way.0 = search rules in
    let h : FitsSigned w64 c.sum.result = record { sfits = c.sum.type_inv } in
    let sum = simp to_z-of_z at c.sum.ensures in
    rw (to_z-of_z h, sum)
    (outer_within c.args.place (speed_of c.args.rate.now) way.0 c.args.ticks way.1 c.requires.within c.args.rate.now.within c.requires.short c.way_of-way.ensures.value c.way_of-way.ensures.rest).0

pub bounds-requires-clause-high : goal.bounds-requires-clause-high
bounds-requires-clause-high c = λ p.
    let way = c.way_of-way.result in
    let f : FitsSigned w64 c.args.place = c.ranges.place in
    let g : FitsSigned w64 way.0 = search rules in
    let h : FitsSigned w64 c.sum.result = record { sfits = c.sum.type_inv } in
    let sum = simp to_z-of_z at c.sum.ensures in
    rw (to_z-of_z h, sum)
    ((outer_within c.args.place (speed_of c.args.rate.now) way.0 c.args.ticks way.1 c.requires.within c.args.rate.now.within c.requires.short c.way_of-way.ensures.value c.way_of-way.ensures.rest).1 p)

pub returns-clause-lower : goal.returns-clause-lower
returns-clause-lower c =
    let way = c.way_of-way.result in
    let f : FitsSigned w64 c.args.place = c.ranges.place in
    let g : FitsSigned w64 way.0 = search rules in
    let h : FitsSigned w64 c.sum.result = record { sfits = c.sum.type_inv } in
    let lower = simp to_z-of_z at c.bounds.ensures.lower in
    let sum = simp to_z-of_z at c.sum.ensures in
    lower ∙ sum ∙ floor_div-unique _ (c.args.place +ℤ way.0) 3000000 way.1 (moved c.args.place (speed_of c.args.rate.now) way.0 c.args.ticks way.1 c.way_of-way.ensures.value) c.way_of-way.ensures.rest

pub returns-clause-upper : goal.returns-clause-upper
returns-clause-upper c =
    let way = c.way_of-way.result in
    let f : FitsSigned w64 c.args.place = c.ranges.place in
    let g : FitsSigned w64 way.0 = search rules in
    let h : FitsSigned w64 c.sum.result = record { sfits = c.sum.type_inv } in
    let sum = simp to_z-of_z at c.sum.ensures in
    let exact = simp to_z-of_z at c.bounds.ensures.exact in
    let next = simp to_z-of_z at c.bounds.ensures.next in
    ceil_div-rounded _ (c.args.place +ℤ way.0) _ 3000000 way.1 (moved c.args.place (speed_of c.args.rate.now) way.0 c.args.ticks way.1 c.way_of-way.ensures.value) c.way_of-way.ensures.rest
    (λ z. exact z ∙ sum) (λ p. next p ∙ ap (λ (x : ℤ). x +ℤ pos 1) sum)
