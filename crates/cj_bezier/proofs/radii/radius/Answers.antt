use Rattle.std.proofs.Common.{ℕ, ◌+◌, ◌*◌, ◌<◌, ◌≤◌, subst, sym}
use Rattle.cj_bezier.specs.Hulls.{PlainHull}
use Rattle.cj_bezier.specs.Gaps.{PlainGap, gap_terms, terms_of}
use Rattle.cj_bezier.specs.Squares.{least_square, greatest_square}
use Rattle.cj_bezier.specs.Shells.{IsInner, IsOuter}
use Rattle.cj_bezier.proofs.ShellLemmas.{inner_of_square, outer_of_square, square_of_outer, greatest_inner, inner-le_outer, first_ordered, radius_within}
use Rattle.cj_bezier.proofs.radii.radius.Goals as goal

pub returns-clause-inner : goal.returns-clause-inner
returns-clause-inner c =
    let fits : c.isqrt_down.result * c.isqrt_down.result ≤ least_square (terms_of c.gap_origin-gap.result.terms) = subst (λ (n : ℕ). c.isqrt_down.result * c.isqrt_down.result ≤ n) c.least_square.ensures.value c.isqrt_down.ensures.below in
    subst (λ (g : PlainGap). IsInner g c.isqrt_down.result) c.gap_origin-gap.ensures (inner_of_square (terms_of c.gap_origin-gap.result.terms) _ fits)

pub returns-clause-greatest : goal.returns-clause-greatest
returns-clause-greatest c r h =
    let root = c.isqrt_down.result in
    let next : least_square (terms_of c.gap_origin-gap.result.terms) < (root + 1) * (root + 1) = subst (λ (n : ℕ). n < (root + 1) * (root + 1)) c.least_square.ensures.value c.isqrt_down.ensures.next in
    greatest_inner (terms_of c.gap_origin-gap.result.terms) root r next (subst (λ (g : PlainGap). IsInner g r) (sym c.gap_origin-gap.ensures) h)

pub returns-clause-outer : goal.returns-clause-outer
returns-clause-outer c =
    let fits : greatest_square (terms_of c.gap_origin-gap.result.terms) ≤ c.isqrt_up.result * c.isqrt_up.result = subst (λ (n : ℕ). n ≤ c.isqrt_up.result * c.isqrt_up.result) c.greatest_square.ensures.value c.isqrt_up.ensures.above in
    subst (λ (g : PlainGap). IsOuter g c.isqrt_up.result) c.gap_origin-gap.ensures (outer_of_square (terms_of c.gap_origin-gap.result.terms) _ fits)

pub returns-clause-least : goal.returns-clause-least
returns-clause-least c r h =
    let fits : c.greatest_square.result ≤ r * r = subst (λ (n : ℕ). n ≤ r * r) (sym c.greatest_square.ensures.value) (square_of_outer (terms_of c.gap_origin-gap.result.terms) r (subst (λ (g : PlainGap). IsOuter g r) (sym c.gap_origin-gap.ensures) h)) in
    c.isqrt_up.ensures.least r fits

pub returns-clause-ordered : goal.returns-clause-ordered
returns-clause-ordered c =
    let g = terms_of c.gap_origin-gap.result.terms in
    inner-le_outer g c.isqrt_down.result c.isqrt_up.result (first_ordered c.gap_origin-gap.result.terms)
    (subst (λ (g : PlainGap). IsInner g c.isqrt_down.result) (sym c.gap_origin-gap.ensures) (returns-clause-inner c))
    (subst (λ (g : PlainGap). IsOuter g c.isqrt_up.result) (sym c.gap_origin-gap.ensures) (returns-clause-outer c))

pub returns-clause-law : goal.returns-clause-law
returns-clause-law c curve first last m over e p q =
    radius_within curve first m last c.isqrt_down.result c.isqrt_up.result p q over
    (subst (λ (d : PlainHull). IsInner (gap_terms d) c.isqrt_down.result) e (returns-clause-inner c))
    (subst (λ (d : PlainHull). IsOuter (gap_terms d) c.isqrt_up.result) e (returns-clause-outer c))
