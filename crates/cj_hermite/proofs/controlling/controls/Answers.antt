use Rattle.std.proofs.Common.{◌≡◌, ◌-◌, ℕ, arith, ap, ◌∙◌, FitsSigned, to_z, of_z, to_z-of_z, rules}
use Rattle.std.specs.Prelude.{ℤ}
use Rattle.std.specs.Int.{w64}
use Rattle.cj_hermite.specs.Interpolant.{Four, controls_of}
use Rattle.cj_hermite.proofs.ReachLemmas.{place_sides, rate_sides}
use Rattle.cj_hermite.proofs.controlling.controls.Goals as goal

-- four coordinates that were read from a piece
read : (r : Four) (p v q w : ℤ) (t u : ℕ) → FitsSigned w64 p → FitsSigned w64 v → FitsSigned w64 q → FitsSigned w64 w → t ≡ u
    → r ≡ controls_of (to_z w64 (of_z w64 p)) (to_z w64 (of_z w64 v)) (to_z w64 (of_z w64 q)) (to_z w64 (of_z w64 w)) t → r ≡ controls_of p v q w u
read r p v q w t u f g h k e s =
    s
    ∙ ap (λ (z : ℤ). controls_of z (to_z w64 (of_z w64 v)) (to_z w64 (of_z w64 q)) (to_z w64 (of_z w64 w)) t) (to_z-of_z f)
    ∙ ap (λ (z : ℤ). controls_of p z (to_z w64 (of_z w64 q)) (to_z w64 (of_z w64 w)) t) (to_z-of_z g)
    ∙ ap (λ (z : ℤ). controls_of p v z (to_z w64 (of_z w64 w)) t) (to_z-of_z h)
    ∙ ap (λ (z : ℤ). controls_of p v q z t) (to_z-of_z k)
    ∙ ap (λ (n : ℕ). controls_of p v q w n) e

pub axis-requires : goal.axis-requires
axis-requires c =
    let p = c.args.piece.now in
    record {
      first_place = place_sides p.p0.x p.first_place.0;
      first_rate = rate_sides p.v0.x p.first_rate.0;
      last_place = place_sides p.p1.x p.last_place.0;
      last_rate = rate_sides p.v1.x p.last_rate.0;
      short = omega arith;
    }

pub axis-requires-2 : goal.axis-requires-2
axis-requires-2 c =
    let p = c.args.piece.now in
    record {
      first_place = place_sides p.p0.y p.first_place.1;
      first_rate = rate_sides p.v0.y p.first_rate.1;
      last_place = place_sides p.p1.y p.last_place.1;
      last_rate = rate_sides p.v1.y p.last_rate.1;
      short = omega arith;
    }

pub axis-requires-3 : goal.axis-requires-3
axis-requires-3 c =
    let p = c.args.piece.now in
    record {
      first_place = place_sides p.p0.z p.first_place.2;
      first_rate = rate_sides p.v0.z p.first_rate.2;
      last_place = place_sides p.p1.z p.last_place.2;
      last_rate = rate_sides p.v1.z p.last_rate.2;
      short = omega arith;
    }

pub returns-clause-x : goal.returns-clause-x
returns-clause-x c =
    let p = c.args.piece.now in
    read _ p.p0.x p.v0.x p.p1.x p.v1.x _ (p.t1.micros - p.t0.micros) (search rules) (search rules) (search rules) (search rules) (omega arith) c.axis.ensures.value

pub returns-clause-y : goal.returns-clause-y
returns-clause-y c =
    let p = c.args.piece.now in
    read _ p.p0.y p.v0.y p.p1.y p.v1.y _ (p.t1.micros - p.t0.micros) (search rules) (search rules) (search rules) (search rules) (omega arith) c.axis-2.ensures.value

pub returns-clause-z : goal.returns-clause-z
returns-clause-z c =
    let p = c.args.piece.now in
    read _ p.p0.z p.v0.z p.p1.z p.v1.z _ (p.t1.micros - p.t0.micros) (search rules) (search rules) (search rules) (search rules) (omega arith) c.axis-3.ensures.value
