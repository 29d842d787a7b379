use Rattle.std.proofs.Common.{◌≡◌, ℕ, ◌+◌, ◌*◌, ap, arith}
use Rattle.cj_interval.specs.SquareRoots.{floor_root}
use Rattle.cj_interval.proofs.SquareRootLemmas.{floor_root-is}
use Rattle.cj_meet.proofs.flatness.raised.Goals as goal

pub returns : goal.returns
returns c =
    let root = floor_root-is c.args.low c.isqrt_down-root.result c.isqrt_down-root.ensures.below c.isqrt_down-root.ensures.next in
    let sum : c.from.result + c.from-2.result ≡ floor_root c.args.low + 1000000 = omega (arith, root) in
    ap (λ (n : ℕ). n * n) sum
