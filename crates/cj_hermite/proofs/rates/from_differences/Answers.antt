use Rattle.std.proofs.Common.{ℕ, ◌*◌, arith, FitsSigned, to_z-of_z}
use Rattle.std.specs.Int.{w128}
use Rattle.cj_interval.specs.Sizes.{IsWithin}
use Rattle.cj_hermite.proofs.LevelLemmas.{level-low_within, level-high_within}
use Rattle.cj_hermite.proofs.ReachLemmas.{rate_room, square_short}
use Rattle.cj_hermite.proofs.rates.from_differences.Goals as goal

pub between-requires-clause-some : goal.between-requires-clause-some
between-requires-clause-some c = c.requires.some

pub between-requires-clause-divisor : goal.between-requires-clause-divisor
between-requires-clause-divisor c = c.requires.some

pub between-requires-clause-inside : goal.between-requires-clause-inside
between-requires-clause-inside c = c.requires.inside

pub between-requires-clause-product : goal.between-requires-clause-product
between-requires-clause-product c = square_short c.args.span c.requires.short

pub between-requires-clause-first_within : goal.between-requires-clause-first_within
between-requires-clause-first_within c =
    let f : FitsSigned w128 c.args.a = c.ranges.a in
    rw (to_z-of_z f) (rate_room c.args.a c.args.span c.requires.first c.requires.short)

pub between-requires-clause-second_within : goal.between-requires-clause-second_within
between-requires-clause-second_within c =
    let g : FitsSigned w128 c.args.b = c.ranges.b in
    rw (to_z-of_z g) (rate_room c.args.b c.args.span c.requires.second c.requires.short)

pub returns-clause-lower : goal.returns-clause-lower
returns-clause-lower c =
    let f : FitsSigned w128 c.args.a = c.ranges.a in
    let g : FitsSigned w128 c.args.b = c.ranges.b in
    simp to_z-of_z at c.between.ensures.lower

pub returns-clause-upper : goal.returns-clause-upper
returns-clause-upper c =
    let f : FitsSigned w128 c.args.a = c.ranges.a in
    let g : FitsSigned w128 c.args.b = c.ranges.b in
    simp to_z-of_z at c.between.ensures.upper

pub returns-clause-within : goal.returns-clause-within
returns-clause-within c =
    let f : FitsSigned w128 c.args.a = c.ranges.a in
    let g : FitsSigned w128 c.args.b = c.ranges.b in
    let lower = simp to_z-of_z at c.between.ensures.lower in
    let upper = simp to_z-of_z at c.between.ensures.upper in
    let m : ℕ = 3144000000000000000000000 in
    let a : IsWithin (m * c.args.span) c.args.a = omega arith in
    let b : IsWithin (m * c.args.span) c.args.b = omega arith in
    record {
      low = rw lower (level-low_within c.args.a c.args.b c.args.span c.args.at c.args.span m c.requires.some c.requires.some c.requires.inside a b);
      high = rw upper (level-high_within c.args.a c.args.b c.args.span c.args.at c.args.span m c.requires.some c.requires.some c.requires.inside a b);
    }
