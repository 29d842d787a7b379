use Rattle.std.proofs.Common.{◌≡◌, sym, subst, ◌∙◌, FitsSigned, rules, to_z, of_z, to_z-of_z}
use Rattle.std.specs.Prelude.{ℤ}
use Rattle.std.specs.Int.{w64, w128}
use Rattle.cj_interval.specs.Sizes.{IsWithin}
use Rattle.cj_hermite.proofs.levels.third_level.Goals as goal

-- an end of 64 bits in 128
read : (r z : ℤ) → FitsSigned w128 r → FitsSigned w64 z → r ≡ to_z w64 (of_z w64 z) → to_z w128 (of_z w128 r) ≡ z
read r z f g is = to_z-of_z f ∙ is ∙ to_z-of_z g

pub invariant_of-result : goal.invariant_of-result
invariant_of-result c =
    let v = c.between-value.result in
    let lower = read c.from.result v.lo (record { sfits = c.from.type_inv }) (search rules) c.from.ensures in
    let upper = read c.from-2.result v.hi (record { sfits = c.from-2.type_inv }) (search rules) c.from-2.ensures in
    record { ordered = rw (lower, upper) v.ordered }

pub returns-clause-lower : goal.returns-clause-lower
returns-clause-lower c = read c.from.result c.between-value.result.lo (record { sfits = c.from.type_inv }) (search rules) c.from.ensures ∙ c.between-value.ensures.lower

pub returns-clause-upper : goal.returns-clause-upper
returns-clause-upper c = read c.from-2.result c.between-value.result.hi (record { sfits = c.from-2.type_inv }) (search rules) c.from-2.ensures ∙ c.between-value.ensures.upper

pub returns-clause-low : goal.returns-clause-low
returns-clause-low c =
    subst (IsWithin 524000000000000000) (sym (read c.from.result c.between-value.result.lo (record { sfits = c.from.type_inv }) (search rules) c.from.ensures)) c.between-value.result.low

pub returns-clause-high : goal.returns-clause-high
returns-clause-high c =
    subst (IsWithin 524000000000000000) (sym (read c.from-2.result c.between-value.result.hi (record { sfits = c.from-2.type_inv }) (search rules) c.from-2.ensures)) c.between-value.result.high
