use Rattle.std.proofs.Common.{◌≡◌, ◌∙◌, ap, arith, to_z, of_z, to_z-of_z}
use Rattle.std.specs.Prelude.{pos, ◌-ℤ◌}
use Rattle.std.specs.Int.{w128}
use Rattle.std.proofs.lemmas.Int.{ints}
use Rattle.cj_grid.specs.Buckets.{bucket_on}
use Rattle.cj_grid.proofs.buckets.first_bucket.Goals as goal

pub returns-clause-value : goal.returns-clause-value
returns-clause-value c =
    let same = to_z-of_z c.ranges.least in
    let read : to_z w128 (of_z w128 (to_z w128 (of_z w128 c.from.result) -ℤ to_z w128 (of_z w128 c.from-2.result))) ≡ c.args.least -ℤ pos c.args.back
    = omega (arith, ints) in
    c.bucket_at.ensures.value ∙ ap bucket_on read

pub returns-clause-few : goal.returns-clause-few
returns-clause-few c = c.bucket_at.ensures.few
