use Rattle.std.proofs.Common.{◌≡◌, ℕ, ◌≤◌, arith, refl, ap, ◌∙◌}
use Rattle.std.specs.Prelude.{ℤ}
use Rattle.cj_interval.specs.Rounding.{floor_div, ceil_div}
use Rattle.cj_hermite.specs.Interpolant.{Four}
use Rattle.cj_hermite.specs.Levels.{Three, Two, first_values, second_values, third_value, polar}
use Rattle.cj_hermite.specs.Ready.{controls_ready}
use Rattle.cj_bezier.proofs.HullLemmas.{hull_narrow}
use Rattle.cj_bezier.proofs.hull_of_piece.hull_axis.Goals as goal

-- level by level one comes to a polar value
reached : (round : ℤ → ℕ → ℤ) (r : ℤ) (m : Two) (f : Three) (k : Four) (t p q s u v w : ℕ)
    → r ≡ third_value round m p w → m ≡ second_values round f q v → f ≡ first_values round k s u → p ≡ t → q ≡ t → s ≡ t → r ≡ polar round k t u v w
reached round r m f k t p q s u v w third second first ep eq es =
    third
    ∙ ap (λ (n : ℕ). third_value round m n w) ep
    ∙ ap (λ (x : Two). third_value round x t w) (second ∙ ap (λ (n : ℕ). second_values round f n v) eq)
    ∙ ap (λ (x : Three). third_value round (second_values round x t v) t w) (first ∙ ap (λ (n : ℕ). first_values round k n u) es)

pub returns-clause-value : goal.returns-clause-value
returns-clause-value c =
    let k = controls_ready c.args.axis.now in
    let a = c.args.a.now in
    let b = c.args.b.now in
    let same = c.requires.same in
    let at_first = c.first_level-at_first.ensures in
    let last_low = c.first_level-at_last.ensures.lower ∙ ap (λ (n : ℕ). first_values floor_div (k n) n b.at) same in
    let last_high = c.first_level-at_last.ensures.upper ∙ ap (λ (n : ℕ). first_values ceil_div (k n) n b.at) same in
    let start = c.second_level-start.ensures in
    let middle = c.second_level-middle.ensures in
    let end = c.second_level-end.ensures in
    let l0 = reached floor_div _ _ _ (k a.of) a.of a.of a.of a.of a.at a.at a.at c.third_level.ensures.lower start.lower at_first.lower refl refl refl in
    let l1 = reached floor_div _ _ _ (k a.of) a.of b.of a.of a.of a.at a.at b.at c.third_level-2.ensures.lower start.lower at_first.lower same refl refl in
    let l2 = reached floor_div _ _ _ (k a.of) a.of b.of b.of a.of a.at b.at b.at c.third_level-3.ensures.lower middle.lower at_first.lower same same refl in
    let l3 = reached floor_div _ _ _ (k a.of) a.of b.of b.of a.of b.at b.at b.at c.third_level-4.ensures.lower end.lower last_low same same refl in
    let h0 = reached ceil_div _ _ _ (k a.of) a.of a.of a.of a.of a.at a.at a.at c.third_level.ensures.upper start.upper at_first.upper refl refl refl in
    let h1 = reached ceil_div _ _ _ (k a.of) a.of b.of a.of a.of a.at a.at b.at c.third_level-2.ensures.upper start.upper at_first.upper same refl refl in
    let h2 = reached ceil_div _ _ _ (k a.of) a.of b.of b.of a.of a.at b.at b.at c.third_level-3.ensures.upper middle.upper at_first.upper same same refl in
    let h3 = reached ceil_div _ _ _ (k a.of) a.of b.of b.of a.of b.at b.at b.at c.third_level-4.ensures.upper end.upper last_high same same refl in
    λ i. record { low = record { k0 = l0 i; k1 = l1 i; k2 = l2 i; k3 = l3 i }; high = record { k0 = h0 i; k1 = h1 i; k2 = h2 i; k3 = h3 i } }

pub returns-clause-narrow : goal.returns-clause-narrow
returns-clause-narrow c =
    let t = c.args.a.now.of in
    let inside : c.args.b.now.at ≤ t = omega (arith, c.args.b.now.inside) in
    hull_narrow (controls_ready c.args.axis.now t) t c.args.a.now.at c.args.b.now.at _ _ _ _ c.args.a.now.some c.args.a.now.inside inside (returns-clause-value c)
