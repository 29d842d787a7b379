use Rattle.std.proofs.Common.{pos, ◌*ℤ◌, refl}
use Rattle.std.specs.Int.{w128}
use Rattle.cj_interval.proofs.MachineLemmas.{fits_in, read_as, under}
use Rattle.cj_interval.proofs.span.product.Goals as goal

pub overflow_mul-result : goal.overflow_mul-result
overflow_mul-result c =
    fits_in w128 ◌*ℤ◌ c.args.a c.from.result (c.args.a *ℤ pos c.args.by) c.ranges.a (record { sfits = c.from.type_inv }) (rw c.from.ensures refl) (under (c.args.a *ℤ pos c.args.by) c.requires)

pub returns : goal.returns
returns c =
    read_as ◌*ℤ◌ c.args.a c.from.result (c.args.a *ℤ pos c.args.by) c.ranges.a (record { sfits = c.from.type_inv }) (rw c.from.ensures refl) (under (c.args.a *ℤ pos c.args.by) c.requires)
