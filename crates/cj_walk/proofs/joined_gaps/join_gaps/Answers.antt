use Rattle.std.proofs.Common.{[], ◌∷◌}
use Rattle.cj_bezier.specs.Gaps.{terms_of}
use Rattle.cj_walk.proofs.JoinedGapLemmas.{inner_of_both, outer_of_both}
use Rattle.cj_walk.proofs.joined_gaps.join_gaps.Goals as goal

pub returns-clause-lower : goal.returns-clause-lower
returns-clause-lower c = λ i.
    c.both_at.ensures.lower i ∷ c.both_at-2.ensures.lower i ∷ c.both_at-3.ensures.lower i ∷ c.both_at-4.ensures.lower i ∷ c.both_at-5.ensures.lower i
    ∷ c.both_at-6.ensures.lower i ∷ c.both_at-7.ensures.lower i ∷ []

pub returns-clause-upper : goal.returns-clause-upper
returns-clause-upper c = λ i.
    c.both_at.ensures.upper i ∷ c.both_at-2.ensures.upper i ∷ c.both_at-3.ensures.upper i ∷ c.both_at-4.ensures.upper i ∷ c.both_at-5.ensures.upper i
    ∷ c.both_at-6.ensures.upper i ∷ c.both_at-7.ensures.upper i ∷ []

pub returns-clause-inner : goal.returns-clause-inner
returns-clause-inner c r =
    inner_of_both (terms_of c.args.a.terms) (terms_of c.args.b.now.terms)
    (terms_of (c.both_at.result ∷ c.both_at-2.result ∷ c.both_at-3.result ∷ c.both_at-4.result ∷ c.both_at-5.result ∷ c.both_at-6.result ∷ c.both_at-7.result ∷ [])) r (returns-clause-lower c)

pub returns-clause-outer : goal.returns-clause-outer
returns-clause-outer c r =
    outer_of_both (terms_of c.args.a.terms) (terms_of c.args.b.now.terms)
    (terms_of (c.both_at.result ∷ c.both_at-2.result ∷ c.both_at-3.result ∷ c.both_at-4.result ∷ c.both_at-5.result ∷ c.both_at-6.result ∷ c.both_at-7.result ∷ [])) r (returns-clause-upper c)
