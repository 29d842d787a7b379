use Rattle.std.proofs.Common.{ℕ, ◌+◌, ◌*◌, ◌<◌, ◌≤◌, subst, sym}
use Rattle.cj_bezier.specs.Gaps.{terms_of}
use Rattle.cj_bezier.proofs.ShellLemmas.{inner_of_square, outer_of_square, square_of_outer, greatest_inner, inner-le_outer, first_ordered}
use Rattle.cj_sieve.proofs.track_shell.radii.Goals as goal

pub returns-clause-inner : goal.returns-clause-inner
returns-clause-inner c =
    let root = c.isqrt_down.result in
    inner_of_square (terms_of c.args.gap.now.terms) root (subst (λ (n : ℕ). root * root ≤ n) c.least_square.ensures.value c.isqrt_down.ensures.below)

pub returns-clause-greatest : goal.returns-clause-greatest
returns-clause-greatest c r h =
    let root = c.isqrt_down.result in
    greatest_inner (terms_of c.args.gap.now.terms) root r (subst (λ (n : ℕ). n < (root + 1) * (root + 1)) c.least_square.ensures.value c.isqrt_down.ensures.next) h

pub returns-clause-outer : goal.returns-clause-outer
returns-clause-outer c =
    let root = c.isqrt_up.result in
    outer_of_square (terms_of c.args.gap.now.terms) root (subst (λ (n : ℕ). n ≤ root * root) c.greatest_square.ensures.value c.isqrt_up.ensures.above)

pub returns-clause-least : goal.returns-clause-least
returns-clause-least c r h =
    c.isqrt_up.ensures.least r (subst (λ (n : ℕ). n ≤ r * r) (sym c.greatest_square.ensures.value) (square_of_outer (terms_of c.args.gap.now.terms) r h))

pub returns-clause-ordered : goal.returns-clause-ordered
returns-clause-ordered c =
    inner-le_outer (terms_of c.args.gap.now.terms) c.isqrt_down.result c.isqrt_up.result (first_ordered c.args.gap.now.terms) (returns-clause-inner c) (returns-clause-outer c)
