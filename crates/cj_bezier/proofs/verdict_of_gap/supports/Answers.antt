use Rattle.std.proofs.Common.{◌≡◌, ap, sym, ◌∙◌, Bool, true, false}
use Rattle.std.specs.Prelude.{◌&&◌}
use Rattle.cj_bezier.specs.Gaps.{terms_of}
use Rattle.cj_bezier.proofs.VerdictLemmas.{exact_of, law_of}
use Rattle.cj_bezier.proofs.verdict_of_gap.supports.Goals as goal

pub returns-in-Far-clause-value : goal.returns-in-Far-clause-value
returns-in-Far-clause-value c = rw c.in-Far.is c.are_above.ensures

pub returns-in-Far-clause-exact : goal.returns-in-Far-clause-exact
returns-in-Far-clause-exact c = exact_of _ (terms_of c.args.gap.now.terms) c.args.thr c.args.kind (returns-in-Far-clause-value c)

pub returns-in-Far-clause-law : goal.returns-in-Far-clause-law
returns-in-Far-clause-law c a b first last of_hulls t =
    law_of (terms_of c.args.gap.now.terms) c.args.thr c.args.kind a b first last c.requires.least of_hulls (sym (returns-in-Far-clause-value c) ∙ t)

pub returns-in-Near-clause-value : goal.returns-in-Near-clause-value
returns-in-Near-clause-value c = rw c.in-Near.is c.are_at_most.ensures

pub returns-in-Near-clause-exact : goal.returns-in-Near-clause-exact
returns-in-Near-clause-exact c = exact_of _ (terms_of c.args.gap.now.terms) c.args.thr c.args.kind (returns-in-Near-clause-value c)

pub returns-in-Near-clause-law : goal.returns-in-Near-clause-law
returns-in-Near-clause-law c a b first last of_hulls t =
    law_of (terms_of c.args.gap.now.terms) c.args.thr c.args.kind a b first last c.requires.least of_hulls (sym (returns-in-Near-clause-value c) ∙ t)

both : (a b x y : Bool) → a ≡ x → b ≡ y → a ≡ true → b ≡ (x && y)
both a b x y e f t = ap (λ z. z && b) (sym t) ∙ ap (λ z. z && b) e ∙ ap (λ z. x && z) f

first : (a x y : Bool) → a ≡ x → a ≡ false → a ≡ (x && y)
first a x y e f = f ∙ ap (λ z. z && y) (sym f ∙ e)

pub returns-then-are_at_least-clause-value : goal.returns-then-are_at_least-clause-value
returns-then-are_at_least-clause-value c = rw c.in-Undecided.is (both _ _ _ _ c.are_at_least.ensures c.are_at_most-then-are_at_least.ensures c.if-are_at_least.true)

pub returns-then-are_at_least-clause-exact : goal.returns-then-are_at_least-clause-exact
returns-then-are_at_least-clause-exact c = exact_of _ (terms_of c.args.gap.now.terms) c.args.thr c.args.kind (returns-then-are_at_least-clause-value c)

pub returns-then-are_at_least-clause-law : goal.returns-then-are_at_least-clause-law
returns-then-are_at_least-clause-law c a b first last of_hulls t =
    law_of (terms_of c.args.gap.now.terms) c.args.thr c.args.kind a b first last c.requires.least of_hulls (sym (returns-then-are_at_least-clause-value c) ∙ t)

pub returns-else-are_at_least-clause-value : goal.returns-else-are_at_least-clause-value
returns-else-are_at_least-clause-value c = rw c.in-Undecided.is (first _ _ _ c.are_at_least.ensures c.if-are_at_least.false)

pub returns-else-are_at_least-clause-exact : goal.returns-else-are_at_least-clause-exact
returns-else-are_at_least-clause-exact c = exact_of _ (terms_of c.args.gap.now.terms) c.args.thr c.args.kind (returns-else-are_at_least-clause-value c)
