use Rattle.std.proofs.Common.{◌≡◌, ◌+◌, ℤ, pos, ◌+ℤ◌, ◌-ℤ◌, w64, ap, ◌∙◌}
use Rattle.std.proofs.lemmas.Int.{to_z-of_z}
use Rattle.cj_grid.specs.Buckets.{bucket_on}
use Rattle.cj_grid.proofs.buckets.buckets_on.Goals as goal

pub returns : goal.returns
returns c =
    let first : c.first_bucket.result ≡ bucket_on (c.args.least -ℤ pos (c.args.thr + c.args.size)) =
    c.first_bucket.ensures.value ∙ ap (λ (z : ℤ). bucket_on (z -ℤ pos (c.args.thr + c.args.size))) (to_z-of_z w64 c.args.least c.ranges.least) in
    let last : c.last_bucket.result ≡ bucket_on (c.args.most +ℤ pos c.args.size) =
    c.last_bucket.ensures.value ∙ ap (λ (z : ℤ). bucket_on (z +ℤ pos c.args.size)) (to_z-of_z w64 c.args.most c.ranges.most) in
    λ i. record { first = first i; last = last i }
