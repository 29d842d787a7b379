use Rattle.std.proofs.Common.{◌≡◌, min, max, refl, arith}
use Rattle.cj_bezier.proofs.PartedLemmas.{law_of}
use Rattle.cj_sieve.proofs.parted_shells.parted.Goals as goal

pub returns-clause-value : goal.returns-clause-value
returns-clause-value c =
    let outer : c.from.result ≡ min c.args.a.hi c.args.b.hi = omega (arith, c.from.ensures, c.min-outer.ensures) in
    let inner : c.from-3.result ≡ max c.args.a.lo c.args.b.lo = omega (arith, c.from-3.ensures, c.max-inner.ensures) in
    rw (outer, c.from-2.ensures, inner) refl

pub returns-clause-law : goal.returns-clause-law
returns-clause-law c = law_of c.args.a c.args.b c.args.thr _ (returns-clause-value c)
