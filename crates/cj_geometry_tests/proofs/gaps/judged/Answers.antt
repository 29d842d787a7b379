use Rattle.std.proofs.Common.{arith, ap}
use Rattle.cj_hermite.specs.Interpolant.{Curve}
use Rattle.cj_geometry_tests.proofs.gaps.judged.Goals as goal

pub judge-requires-clause-first_over : goal.judge-requires-clause-first_over
judge-requires-clause-first_over c =
    let start = ap (λ (k : Curve). k.start) c.ready.ensures in
    let span = ap (λ (k : Curve). k.span) c.ready.ensures in
    record { some = omega arith; from = omega arith; to = omega arith }

pub judge-requires-clause-second_over : goal.judge-requires-clause-second_over
judge-requires-clause-second_over c =
    let start = ap (λ (k : Curve). k.start) c.ready-2.ensures in
    let span = ap (λ (k : Curve). k.span) c.ready-2.ensures in
    record { some = omega arith; from = omega arith; to = omega arith }
