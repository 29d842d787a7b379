use Rattle.cj_hermite.proofs.SearchLemmas.{last_begun_by_tests}
use Rattle.cj_hermite.proofs.searches.is_last_begun.Goals as goal

pub returns-then-has_begun : goal.returns-then-has_begun
returns-then-has_begun c h =
    last_begun_by_tests c.args.at.micros c.args.number c.args.segments.now c.has_begun.result c.has_begun-then-has_begun.result
    c.has_begun.ensures c.has_begun-then-has_begun.ensures c.if-has_begun.true h
