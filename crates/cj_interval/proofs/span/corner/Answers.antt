use Rattle.std.proofs.Common.{◌≡◌, arith, refl, ◌*ℤ◌}
use Rattle.std.proofs.lemmas.Int.{ints}
use Rattle.std.specs.Int.{w128}
use Rattle.cj_interval.proofs.MachineLemmas.{fits_in, product_fits, read_as, short_fits}
use Rattle.cj_interval.proofs.span.corner.Goals as goal

pub overflow_cast-a : goal.overflow_cast-a
overflow_cast-a c = short_fits c.args.a c.requires.first

pub overflow_cast-b : goal.overflow_cast-b
overflow_cast-b c = short_fits c.args.b c.requires.second

pub overflow_mul-result : goal.overflow_mul-result
overflow_mul-result c =
    let first : c.from.result ≡ c.args.a = omega (arith, ints) in
    let second : c.from-2.result ≡ c.args.b = omega (arith, ints) in
    fits_in w128 ◌*ℤ◌ c.from.result c.from-2.result (c.args.a *ℤ c.args.b) (record { sfits = c.from.type_inv }) (record { sfits = c.from-2.type_inv }) (rw (first, second) refl)
    (product_fits c.args.a c.args.b c.requires.first c.requires.second)

pub returns : goal.returns
returns c =
    let first : c.from.result ≡ c.args.a = omega (arith, ints) in
    let second : c.from-2.result ≡ c.args.b = omega (arith, ints) in
    read_as ◌*ℤ◌ c.from.result c.from-2.result (c.args.a *ℤ c.args.b) (record { sfits = c.from.type_inv }) (record { sfits = c.from-2.type_inv }) (rw (first, second) refl)
    (product_fits c.args.a c.args.b c.requires.first c.requires.second)
