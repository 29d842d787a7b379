use Rattle.std.proofs.Common.{◌≡◌, ℕ, ◌<◌, ◌^◌, refl, ap, ◌∙◌, arith, FitsSigned, to_z, of_z, to_z-of_z}
use Rattle.std.proofs.lemmas.Int.{ints}
use Rattle.std.specs.Prelude.{ℤ, pos, negsuc, ◌+ℤ◌, int_le, unsigned_abs}
use Rattle.std.specs.Int.{w64, w128}
use Rattle.cj_interval.proofs.MachineLemmas.{read_as}
use Rattle.cj_bezier.proofs.box_touch.begins_within.Goals as goal

sum_fits : (z : ℤ) (n : ℕ) → FitsSigned w64 z → n < 2 ^ 64 → unsigned_abs (z +ℤ pos n) < 2 ^ 127
sum_fits (pos a) n f g = let below : a < 2 ^ 63 = f.sfits in omega (arith, ints)
sum_fits (negsuc a) n f g = let below : a < 2 ^ 63 = f.sfits in omega (arith, ints)

pub returns : goal.returns
returns c =
    let least : c.from.result ≡ c.args.least = c.from.ensures ∙ to_z-of_z c.ranges.least in
    let most : c.from-2.result ≡ c.args.most = c.from-2.ensures ∙ to_z-of_z c.ranges.most in
    let read : FitsSigned w128 c.from.result = record { sfits = c.from.type_inv } in
    let sum = read_as ◌+ℤ◌ c.from-2.result c.from-3.result (c.args.most +ℤ pos c.args.thr) (record { sfits = c.from-2.type_inv }) (record { sfits = c.from-3.type_inv })
    (rw (most, c.from-3.ensures) refl) (sum_fits c.args.most c.args.thr c.ranges.most c.ranges.thr.fits) in
    ap (λ (z : ℤ). int_le (to_z w128 (of_z w128 c.from.result)) z) sum ∙ ap (λ (z : ℤ). int_le z (c.args.most +ℤ pos c.args.thr)) (to_z-of_z read ∙ least)
