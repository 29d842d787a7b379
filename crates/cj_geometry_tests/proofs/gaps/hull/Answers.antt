use Rattle.std.proofs.Common.{arith, ap}
use Rattle.cj_hermite.specs.Interpolant.{Curve}
use Rattle.cj_geometry_tests.proofs.gaps.hull.Goals as goal

pub hull_ready-requires : goal.hull_ready-requires
hull_ready-requires c =
    let start = ap (λ (k : Curve). k.start) c.ready.ensures in
    let span = ap (λ (k : Curve). k.span) c.ready.ensures in
    record { order = c.requires.order; after = omega arith; before = omega arith }
