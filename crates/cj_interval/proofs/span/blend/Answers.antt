use Rattle.std.proofs.Common.{◌^◌, ◌+◌, arith, refl, subst, sym, FitsSigned, to_z-of_z}
use Rattle.std.specs.Prelude.{pos, ◌+ℤ◌, ◌*ℤ◌}
use Rattle.std.specs.Int.{w128}
use Rattle.cj_interval.specs.Sizes.{IsWithin}
use Rattle.cj_interval.proofs.MachineLemmas.{fits_in, read_as, under}
use Rattle.cj_interval.proofs.SizeLemmas.{part_within, weighted_within}
use Rattle.cj_interval.proofs.span.blend.Goals as goal

pub product-requires : goal.product-requires
product-requires c =
    let f : FitsSigned w128 c.args.a = c.ranges.a in
    rw (to_z-of_z f) (part_within c.args.a c.args.before (c.args.before + c.args.after) (2 ^ 126) (omega arith) c.requires.first)

pub product-requires-2 : goal.product-requires-2
product-requires-2 c =
    let f : FitsSigned w128 c.args.b = c.ranges.b in
    rw (to_z-of_z f) (part_within c.args.b c.args.after (c.args.before + c.args.after) (2 ^ 126) (omega arith) c.requires.second)

pub overflow_add-result : goal.overflow_add-result
overflow_add-result c =
    let w = weighted_within c.args.a c.args.b c.args.before c.args.after (2 ^ 126) c.requires.first c.requires.second in
    let f : FitsSigned w128 c.args.a = c.ranges.a in
    let g : FitsSigned w128 c.args.b = c.ranges.b in
    let p : FitsSigned w128 c.product.result = record { sfits = c.product.type_inv } in
    let q : FitsSigned w128 c.product-2.result = record { sfits = c.product-2.type_inv } in
    let ea = simp to_z-of_z at c.product.ensures in
    let eb = simp to_z-of_z at c.product-2.ensures in
    fits_in w128 ◌+ℤ◌ c.product.result c.product-2.result (c.args.a *ℤ pos c.args.before +ℤ c.args.b *ℤ pos c.args.after) p q (rw (ea, eb) refl) (under (c.args.a *ℤ pos c.args.before +ℤ c.args.b *ℤ pos c.args.after) w)

pub returns-clause-value : goal.returns-clause-value
returns-clause-value c =
    let w = weighted_within c.args.a c.args.b c.args.before c.args.after (2 ^ 126) c.requires.first c.requires.second in
    let f : FitsSigned w128 c.args.a = c.ranges.a in
    let g : FitsSigned w128 c.args.b = c.ranges.b in
    let p : FitsSigned w128 c.product.result = record { sfits = c.product.type_inv } in
    let q : FitsSigned w128 c.product-2.result = record { sfits = c.product-2.type_inv } in
    let ea = simp to_z-of_z at c.product.ensures in
    let eb = simp to_z-of_z at c.product-2.ensures in
    read_as ◌+ℤ◌ c.product.result c.product-2.result (c.args.a *ℤ pos c.args.before +ℤ c.args.b *ℤ pos c.args.after) p q (rw (ea, eb) refl) (under (c.args.a *ℤ pos c.args.before +ℤ c.args.b *ℤ pos c.args.after) w)

pub returns-clause-within : goal.returns-clause-within
returns-clause-within c =
    let w = weighted_within c.args.a c.args.b c.args.before c.args.after (2 ^ 126) c.requires.first c.requires.second in
    subst (IsWithin (2 ^ 126)) (sym (returns-clause-value c)) w
