use Rattle.std.proofs.Common.{◌≡◌, ◌-◌, arith, rules, refl}
use Rattle.cj_hermite.specs.Interpolant.{Curve}
use Rattle.cj_hermite.proofs.ReadyLemmas.{axis_is}
use Rattle.cj_hermite.proofs.ReachLemmas.{place_sides, rate_sides}
use Rattle.cj_hermite.proofs.readying.ready.Goals as goal

curve_same : (c d : Curve) → c.start ≡ d.start → c.span ≡ d.span → c.x ≡ d.x → c.y ≡ d.y → c.z ≡ d.z → c ≡ d
curve_same c d a b x y z = λ i. record { start = a i; span = b i; x = x i; y = y i; z = z i }

pub axis-requires : goal.axis-requires
axis-requires c =
    let p = c.args.piece.now in
    record {
      first_place = place_sides p.p0.x p.first_place.0;
      first_rate = rate_sides p.v0.x p.first_rate.0;
      last_place = place_sides p.p1.x p.last_place.0;
      last_rate = rate_sides p.v1.x p.last_rate.0;
    }

pub axis-requires-2 : goal.axis-requires-2
axis-requires-2 c =
    let p = c.args.piece.now in
    record {
      first_place = place_sides p.p0.y p.first_place.1;
      first_rate = rate_sides p.v0.y p.first_rate.1;
      last_place = place_sides p.p1.y p.last_place.1;
      last_rate = rate_sides p.v1.y p.last_rate.1;
    }

pub axis-requires-3 : goal.axis-requires-3
axis-requires-3 c =
    let p = c.args.piece.now in
    record {
      first_place = place_sides p.p0.z p.first_place.2;
      first_rate = rate_sides p.v0.z p.first_rate.2;
      last_place = place_sides p.p1.z p.last_place.2;
      last_rate = rate_sides p.v1.z p.last_rate.2;
    }

pub returns : goal.returns
returns c =
    let p = c.args.piece.now in
    let t : c.like.result.of ≡ p.t1.micros - p.t0.micros = omega arith in
    curve_same _ _ refl t
    (axis_is c.axis.result p.p0.x p.v0.x p.p1.x p.v1.x _ _ (search rules) (search rules) (search rules) (search rules) c.axis.ensures.from c.axis.ensures.to c.axis.ensures.out c.axis.ensures.back t)
    (axis_is c.axis-2.result p.p0.y p.v0.y p.p1.y p.v1.y _ _ (search rules) (search rules) (search rules) (search rules) c.axis-2.ensures.from c.axis-2.ensures.to c.axis-2.ensures.out c.axis-2.ensures.back t)
    (axis_is c.axis-3.result p.p0.z p.v0.z p.p1.z p.v1.z _ _ (search rules) (search rules) (search rules) (search rules) c.axis-3.ensures.from c.axis-3.ensures.to c.axis-3.ensures.out c.axis-3.ensures.back t)
