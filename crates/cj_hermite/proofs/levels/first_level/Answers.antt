use Rattle.std.proofs.Common.{◌≡◌, ◌∙◌, FitsSigned, to_z-of_z, rules}
use Rattle.std.specs.Int.{w64}
use Rattle.cj_hermite.specs.Levels.{Three}
use Rattle.cj_hermite.specs.Ready.{speed_of}
use Rattle.cj_hermite.proofs.ReadyLemmas.{outer-low, outer-high, back-low, back-high}
use Rattle.cj_hermite.proofs.levels.first_level.Goals as goal

three_same : (x y : Three) → x.a ≡ y.a → x.b ≡ y.b → x.c ≡ y.c → x ≡ y
three_same x y a b c = λ i. record { a = a i; b = b i; c = c i }

pub returns-clause-lower : goal.returns-clause-lower
returns-clause-lower c =
    let axis = c.args.axis.now in
    let at = c.args.at.now in
    let f : FitsSigned w64 axis.from = search rules in
    let g : FitsSigned w64 axis.to = search rules in
    let first = simp to_z-of_z at c.outer.ensures.lower in
    let last = simp to_z-of_z at c.outer-2.ensures.lower in
    three_same _ _ (first ∙ outer-low axis.from (speed_of axis.out) at.of at.at at.some at.inside) c.inner.ensures.lower
    (last ∙ back-low axis.to (speed_of axis.back) at.of at.at at.some at.inside)

pub returns-clause-upper : goal.returns-clause-upper
returns-clause-upper c =
    let axis = c.args.axis.now in
    let at = c.args.at.now in
    let f : FitsSigned w64 axis.from = search rules in
    let g : FitsSigned w64 axis.to = search rules in
    let first = simp to_z-of_z at c.outer.ensures.upper in
    let last = simp to_z-of_z at c.outer-2.ensures.upper in
    three_same _ _ (first ∙ outer-high axis.from (speed_of axis.out) at.of at.at at.some at.inside) c.inner.ensures.upper
    (last ∙ back-high axis.to (speed_of axis.back) at.of at.at at.some at.inside)
