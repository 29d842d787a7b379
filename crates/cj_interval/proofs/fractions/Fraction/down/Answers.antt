use Rattle.std.proofs.Common.{◌^◌, arith, FitsSigned, to_z-of_z, ◌∙◌, ap, sym, rules}
use Rattle.std.specs.Prelude.{ℤ, pos, ◌*ℤ◌}
use Rattle.std.specs.Int.{w64}
use Rattle.cj_interval.specs.Sizes.{IsWithin}
use Rattle.cj_interval.proofs.FractionLemmas.{way-floor}
use Rattle.cj_interval.proofs.fractions.Fraction.down.Goals as goal

pub difference-requires-clause-first : goal.difference-requires-clause-first
difference-requires-clause-first c =
    let f : FitsSigned w64 c.args.b = c.ranges.b in
    rw (to_z-of_z f) c.requires.second

pub difference-requires-clause-second : goal.difference-requires-clause-second
difference-requires-clause-second c =
    let f : FitsSigned w64 c.args.a = c.ranges.a in
    rw (to_z-of_z f) c.requires.first

pub split-whole-requires : goal.split-whole-requires
split-whole-requires c =
    let f : FitsSigned w64 c.difference.result = record { sfits = c.difference.type_inv } in
    rw (to_z-of_z f) c.difference.ensures.within

pub sum-requires-clause-first : goal.sum-requires-clause-first
sum-requires-clause-first c =
    let f : FitsSigned w64 c.args.a = c.ranges.a in
    rw (to_z-of_z f) c.requires.first

wider : (z : ℤ) → IsWithin (2 ^ 60) z → IsWithin (2 ^ 61) z
wider z h = omega arith

pub sum-requires-clause-second : goal.sum-requires-clause-second
sum-requires-clause-second c =
    let f : FitsSigned w64 c.split-whole.result.0 = search rules in
    rw (to_z-of_z f) (wider c.split-whole.result.0 c.split-whole.ensures.within)

pub returns : goal.returns
returns c =
    let fa : FitsSigned w64 c.args.a = c.ranges.a in
    let fb : FitsSigned w64 c.args.b = c.ranges.b in
    let fd : FitsSigned w64 c.difference.result = record { sfits = c.difference.type_inv } in
    let fw : FitsSigned w64 c.split-whole.result.0 = search rules in
    let fs : FitsSigned w64 c.sum.result = record { sfits = c.sum.type_inv } in
    let d = simp to_z-of_z at c.difference.ensures.value in
    let s = simp to_z-of_z at c.sum.ensures in
    let w = simp to_z-of_z at c.split-whole.ensures.whole in
    rw (to_z-of_z fs, s)
    (way-floor c.args.a c.args.b c.split-whole.result.0 c.args.self.now.at c.args.self.now.of c.split-whole.result.1 c.args.self.now.inside
    (ap (λ (z : ℤ). z *ℤ pos c.args.self.now.at) (sym d) ∙ w) c.split-whole.ensures.rest)
