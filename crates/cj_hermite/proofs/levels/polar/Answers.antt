use Rattle.std.proofs.Common.{ℕ, ◌≤◌, arith, ap, ◌∙◌}
use Rattle.cj_interval.specs.Rounding.{floor_div, ceil_div}
use Rattle.cj_hermite.specs.Levels.{Three, Two, second_values, third_value}
use Rattle.cj_hermite.specs.Boxes.{first_lows, first_highs, second_lows, second_highs}
use Rattle.cj_hermite.specs.Ready.{controls_ready}
use Rattle.cj_hermite.proofs.LevelLemmas.{polar-width}
use Rattle.cj_hermite.proofs.levels.polar.Goals as goal

pub returns-clause-lower : goal.returns-clause-lower
returns-clause-lower c =
    let t = c.args.u.now.of in
    let v = c.args.v.now in
    let w = c.args.w.now in
    c.third_level.ensures.lower
    ∙ ap (λ (n : ℕ). third_value floor_div (second_lows c.second_level-second.result) n w.at) c.requires.third
    ∙ ap (λ (l : Two). third_value floor_div l t w.at) (c.second_level-second.ensures.lower ∙ ap (λ (n : ℕ). second_values floor_div (first_lows c.first_level-first.result) n v.at) c.requires.second)
    ∙ ap (λ (l : Three). third_value floor_div (second_values floor_div l t v.at) t w.at) c.first_level-first.ensures.lower

pub returns-clause-upper : goal.returns-clause-upper
returns-clause-upper c =
    let t = c.args.u.now.of in
    let v = c.args.v.now in
    let w = c.args.w.now in
    c.third_level.ensures.upper
    ∙ ap (λ (n : ℕ). third_value ceil_div (second_highs c.second_level-second.result) n w.at) c.requires.third
    ∙ ap (λ (l : Two). third_value ceil_div l t w.at) (c.second_level-second.ensures.upper ∙ ap (λ (n : ℕ). second_values ceil_div (first_highs c.first_level-first.result) n v.at) c.requires.second)
    ∙ ap (λ (l : Three). third_value ceil_div (second_values ceil_div l t v.at) t w.at) c.first_level-first.ensures.upper

pub returns-clause-narrow : goal.returns-clause-narrow
returns-clause-narrow c =
    let t = c.args.u.now.of in
    let v : c.args.v.now.at ≤ t = omega (arith, c.args.v.now.inside) in
    let w : c.args.w.now.at ≤ t = omega (arith, c.args.w.now.inside) in
    rw (returns-clause-lower c, returns-clause-upper c) (polar-width (controls_ready c.args.axis.now t) t c.args.u.now.at c.args.v.now.at c.args.w.now.at c.args.u.now.some v w)
