use Rattle.std.proofs.Common.{◌*ℤ◌, ◌^◌, arith, refl, sym, subst}
use Rattle.cj_interval.specs.Sizes.{IsWithin}
use Rattle.cj_interval.proofs.MachineLemmas.{product_within, read_as}
use Rattle.cj_rtn.proofs.vectors.product.Goals as goal

pub returns-clause-value : goal.returns-clause-value
returns-clause-value c =
    let size = product_within c.args.a c.args.b (2 ^ 61) (2 ^ 61) c.requires.first c.requires.second in
    read_as ◌*ℤ◌ c.args.a c.args.b (c.args.a *ℤ c.args.b) c.ranges.a c.ranges.b refl (omega arith)

pub returns-clause-within : goal.returns-clause-within
returns-clause-within c =
    subst (IsWithin (2 ^ 122)) (sym (returns-clause-value c)) (product_within c.args.a c.args.b (2 ^ 61) (2 ^ 61) c.requires.first c.requires.second)
