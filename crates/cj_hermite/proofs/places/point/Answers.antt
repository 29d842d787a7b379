use Rattle.std.proofs.Common.{◌≡◌, ◌-◌, arith, ap, ◌∙◌}
use Rattle.cj_hermite.specs.Boxes.{IsPolar, HoldsAxis}
use Rattle.cj_hermite.specs.Interpolant.{Curve, curve_of}
use Rattle.cj_hermite.specs.Ready.{controls_ready}
use Rattle.cj_hermite.proofs.PlaceLemmas.{along}
use Rattle.cj_hermite.proofs.places.point.Goals as goal

pub returns-clause-value : goal.returns-clause-value
returns-clause-value c =
    let p = c.args.piece.now in
    let r = c.ready-ready.result in
    let same = c.ready-ready.ensures in
    let span = ap (λ (k : Curve). k.span) same in
    let of : c.fraction-gone.result.of ≡ r.divisor.of = omega arith in
    let gone : c.fraction-gone.result.at ≡ c.args.at.micros - p.t0.micros = omega arith in
    record {
      x = along (λ k t u. IsPolar k t u u u c.coordinate.result) _ (curve_of p).x _ _ _ _ (ap (controls_ready r.x) of ∙ ap (λ (k : Curve). k.x) same) (of ∙ span) gone c.coordinate.ensures.value;
      y = along (λ k t u. IsPolar k t u u u c.coordinate-2.result) _ (curve_of p).y _ _ _ _ (ap (controls_ready r.y) of ∙ ap (λ (k : Curve). k.y) same) (of ∙ span) gone c.coordinate-2.ensures.value;
      z = along (λ k t u. IsPolar k t u u u c.coordinate-3.result) _ (curve_of p).z _ _ _ _ (ap (controls_ready r.z) of ∙ ap (λ (k : Curve). k.z) same) (of ∙ span) gone c.coordinate-3.ensures.value;
    }

pub returns-clause-holds : goal.returns-clause-holds
returns-clause-holds c =
    let p = c.args.piece.now in
    let r = c.ready-ready.result in
    let same = c.ready-ready.ensures in
    let span = ap (λ (k : Curve). k.span) same in
    let of : c.fraction-gone.result.of ≡ r.divisor.of = omega arith in
    let gone : c.fraction-gone.result.at ≡ c.args.at.micros - p.t0.micros = omega arith in
    record {
      x = along (λ k t u. HoldsAxis k t u c.coordinate.result) _ (curve_of p).x _ _ _ _ (ap (controls_ready r.x) of ∙ ap (λ (k : Curve). k.x) same) (of ∙ span) gone c.coordinate.ensures.holds;
      y = along (λ k t u. HoldsAxis k t u c.coordinate-2.result) _ (curve_of p).y _ _ _ _ (ap (controls_ready r.y) of ∙ ap (λ (k : Curve). k.y) same) (of ∙ span) gone c.coordinate-2.ensures.holds;
      z = along (λ k t u. HoldsAxis k t u c.coordinate-3.result) _ (curve_of p).z _ _ _ _ (ap (controls_ready r.z) of ∙ ap (λ (k : Curve). k.z) same) (of ∙ span) gone c.coordinate-3.ensures.holds;
    }
