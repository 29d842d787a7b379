use Rattle.std.proofs.Common.{◌≡◌, ◌-◌, arith}
use Rattle.cj_hermite.specs.Rates.{IsAxisRate, HoldsAxisRate}
use Rattle.cj_hermite.specs.Interpolant.{curve_of}
use Rattle.cj_hermite.proofs.PlaceLemmas.{along}
use Rattle.cj_hermite.proofs.rates.rate.Goals as goal

pub returns-clause-value : goal.returns-clause-value
returns-clause-value c =
    let p = c.args.piece.now in
    let et : c.since-span.result ≡ p.t1.micros - p.t0.micros = omega arith in
    let eu : c.since-gone.result ≡ c.args.at.micros - p.t0.micros = omega arith in
    record {
      x = along (λ k t u. IsAxisRate k t u c.axis_rate.result) _ (curve_of p).x _ _ _ _ c.controls-controls.ensures.x et eu c.axis_rate.ensures.value;
      y = along (λ k t u. IsAxisRate k t u c.axis_rate-2.result) _ (curve_of p).y _ _ _ _ c.controls-controls.ensures.y et eu c.axis_rate-2.ensures.value;
      z = along (λ k t u. IsAxisRate k t u c.axis_rate-3.result) _ (curve_of p).z _ _ _ _ c.controls-controls.ensures.z et eu c.axis_rate-3.ensures.value;
    }

pub returns-clause-holds : goal.returns-clause-holds
returns-clause-holds c =
    let p = c.args.piece.now in
    let et : c.since-span.result ≡ p.t1.micros - p.t0.micros = omega arith in
    let eu : c.since-gone.result ≡ c.args.at.micros - p.t0.micros = omega arith in
    record {
      x = along (λ k t u. HoldsAxisRate k t u c.axis_rate.result) _ (curve_of p).x _ _ _ _ c.controls-controls.ensures.x et eu c.axis_rate.ensures.holds;
      y = along (λ k t u. HoldsAxisRate k t u c.axis_rate-2.result) _ (curve_of p).y _ _ _ _ c.controls-controls.ensures.y et eu c.axis_rate-2.ensures.holds;
      z = along (λ k t u. HoldsAxisRate k t u c.axis_rate-3.result) _ (curve_of p).z _ _ _ _ c.controls-controls.ensures.z et eu c.axis_rate-3.ensures.holds;
    }
