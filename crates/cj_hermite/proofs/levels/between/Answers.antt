use Rattle.std.proofs.Common.{◌≡◌, ℕ, ◌*◌, arith, ap, ◌∙◌, FitsSigned, to_z, of_z, to_z-of_z, rules}
use Rattle.std.specs.Prelude.{ℤ}
use Rattle.std.specs.Int.{w64}
use Rattle.cj_interval.specs.Rounding.{floor_div, ceil_div}
use Rattle.cj_interval.proofs.RoundingLemmas.{blend-le, floor_div-le_ceil_div}
use Rattle.cj_hermite.specs.Levels.{between, level}
use Rattle.cj_hermite.proofs.LevelLemmas.{level-low_within, level-high_within}
use Rattle.cj_hermite.proofs.levels.between.Goals as goal

-- a level that was computed in 64 bits
read : (round : ℤ → ℕ → ℤ) (a b r : ℤ) (t u : ℕ) → FitsSigned w64 a → FitsSigned w64 b → FitsSigned w64 r
    → r ≡ round (between t u (to_z w64 (of_z w64 a)) (to_z w64 (of_z w64 b))) t → to_z w64 (of_z w64 r) ≡ level round 1 t u a b
read round a b r t u f g h e =
    let one : t ≡ t * 1 = omega arith in
    to_z-of_z h ∙ e
    ∙ ap (λ (z : ℤ). round (between t u z (to_z w64 (of_z w64 b))) t) (to_z-of_z f)
    ∙ ap (λ (z : ℤ). round (between t u a z) t) (to_z-of_z g)
    ∙ ap (λ (n : ℕ). round (between t u a b) n) one

pub returns-clause-lower : goal.returns-clause-lower
returns-clause-lower c = read floor_div c.args.a.lo c.args.b.lo _ _ _ (search rules) (search rules) (record { sfits = c.down.type_inv }) c.down.ensures

pub returns-clause-upper : goal.returns-clause-upper
returns-clause-upper c = read ceil_div c.args.a.hi c.args.b.hi _ _ _ (search rules) (search rules) (record { sfits = c.up.type_inv }) c.up.ensures

pub invariant_of-result : goal.invariant_of-result
invariant_of-result c =
    let at = c.args.at.now in
    let a = c.args.a in
    let b = c.args.b in
    let lower = read floor_div a.lo b.lo c.down.result at.of at.at (search rules) (search rules) (record { sfits = c.down.type_inv }) c.down.ensures in
    let upper = read ceil_div a.hi b.hi c.up.result at.of at.at (search rules) (search rules) (record { sfits = c.up.type_inv }) c.up.ensures in
    record {
      ordered = rw (lower, upper) (floor_div-le_ceil_div _ _ (at.of * 1) (omega arith) (blend-le a.lo b.lo a.hi b.hi _ at.at a.ordered b.ordered));
      low = rw lower (level-low_within a.lo b.lo at.of at.at 1 524000000000000000 at.some (omega arith) at.inside a.low b.low);
      high = rw upper (level-high_within a.hi b.hi at.of at.at 1 524000000000000000 at.some (omega arith) at.inside a.high b.high);
    }
