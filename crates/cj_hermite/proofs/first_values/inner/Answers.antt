use Rattle.std.proofs.Common.{◌≡◌, ℕ, ◌*◌, ◌<◌, ◌≤◌, arith, ◌∙◌, FitsSigned, to_z-of_z, rules}
use Rattle.std.specs.Prelude.{ℤ, pos, ◌+ℤ◌, ◌*ℤ◌}
use Rattle.std.specs.Int.{w64}
use Rattle.cj_interval.specs.Sizes.{IsWithin}
use Rattle.cj_interval.proofs.FractionLemmas.{floor_div-unique, ceil_div-rounded}
use Rattle.cj_hermite.specs.declared.ready_axis.ReadyAxis.{ReadyAxis}
use Rattle.cj_hermite.specs.Levels.{between}
use Rattle.cj_hermite.specs.Ready.{controls_ready}
use Rattle.cj_hermite.proofs.LevelLemmas.{level-low_within, level-high_within}
use Rattle.cj_hermite.proofs.ReadyLemmas.{ready_bounded, round_within}
use Rattle.cj_hermite.proofs.first_values.inner.Goals as goal

-- the quotient that the middle leaves is within reach, and so is the next one
within : (a : ReadyAxis) (t u r : ℕ) (q : ℤ) → t ≤ 3600000000 → 0 < t → u ≤ t → between t u (controls_ready a t).k1 (controls_ready a t).k2 ≡ q *ℤ pos (t * 3000000) +ℤ pos r → r < t * 3000000
    → IsWithin 524000000000000000 q × (0 < r → IsWithin 524000000000000000 (q +ℤ pos 1))
within a t u r q short some le e h =
    let k = ready_bounded a t short in
    round_within _ q (t * 3000000) r 524000000000000000 e h
    (level-low_within (controls_ready a t).k1 (controls_ready a t).k2 t u 3000000 524000000000000000 some (omega arith) le k.k1 k.k2)
    (level-high_within (controls_ready a t).k1 (controls_ready a t).k2 t u 3000000 524000000000000000 some (omega arith) le k.k1 k.k2)

pub bounds-requires-clause-low : goal.bounds-requires-clause-low
bounds-requires-clause-low c =
    let at = c.args.at.now in
    let f : FitsSigned w64 c.middle-whole.result.0 = search rules in
    rw (to_z-of_z f) (within c.args.axis.now at.of at.at _ _ c.requires at.some at.inside c.middle-whole.ensures.value c.middle-whole.ensures.rest).0

pub bounds-requires-clause-high : goal.bounds-requires-clause-high
bounds-requires-clause-high c =
    let at = c.args.at.now in
    let f : FitsSigned w64 c.middle-whole.result.0 = search rules in
    rw (to_z-of_z f) (within c.args.axis.now at.of at.at _ _ c.requires at.some at.inside c.middle-whole.ensures.value c.middle-whole.ensures.rest).1

pub returns-clause-lower : goal.returns-clause-lower
returns-clause-lower c =
    let f : FitsSigned w64 c.middle-whole.result.0 = search rules in
    c.bounds.ensures.lower ∙ to_z-of_z f ∙ floor_div-unique _ _ (c.args.at.now.of * 3000000) _ c.middle-whole.ensures.value c.middle-whole.ensures.rest

pub returns-clause-upper : goal.returns-clause-upper
returns-clause-upper c =
    let f : FitsSigned w64 c.middle-whole.result.0 = search rules in
    let exact = simp to_z-of_z at c.bounds.ensures.exact in
    let next = simp to_z-of_z at c.bounds.ensures.next in
    ceil_div-rounded _ _ _ (c.args.at.now.of * 3000000) _ c.middle-whole.ensures.value c.middle-whole.ensures.rest exact next
