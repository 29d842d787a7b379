use Rattle.std.proofs.Common.{◌*ℤ◌, ℕ}
use Rattle.cj_interval.specs.Spans.{IsWithin}
use Rattle.cj_interval.proofs.MachineLemmas.{product_within}
use Rattle.cj_interval.proofs.SizeLemmas.{least_within, greatest_within}
use Rattle.cj_bezier.specs.Sizes.{DIFFERENCE_REACH, SQUARE_REACH}
use Rattle.cj_bezier.proofs.products.product.Goals as goal

pub returns-clause-within : goal.returns-clause-within
returns-clause-within c =
    let p = c.requires.first in
    let q = c.requires.second in
    let a = c.args.a in
    let b = c.args.b in
    let m : ℕ = DIFFERENCE_REACH in
    let k : ℕ = SQUARE_REACH in
    let ll : IsWithin k (a.lo *ℤ b.lo) = product_within a.lo b.lo m m p.low q.low in
    let lh : IsWithin k (a.lo *ℤ b.hi) = product_within a.lo b.hi m m p.low q.high in
    let hl : IsWithin k (a.hi *ℤ b.lo) = product_within a.hi b.lo m m p.high q.low in
    let hh : IsWithin k (a.hi *ℤ b.hi) = product_within a.hi b.hi m m p.high q.high in
    record {
      low = rw c.mul.ensures.lower (least_within k _ _ _ _ ll lh hl hh);
      high = rw c.mul.ensures.upper (greatest_within k _ _ _ _ ll lh hl hh);
    }
