use Rattle.std.proofs.Common.{length, arith}
use Rattle.std.proofs.lemmas.Bool.{le-ltb}
use Rattle.cj_hermite.proofs.SearchLemmas.{begun_is, not_begun}
use Rattle.cj_hermite.proofs.searches.has_begun.Goals as goal

pub returns-then-number-segments : goal.returns-then-number-segments
returns-then-number-segments c = begun_is c.args.at.micros c.args.number c.args.segments.now c.index-segments-number.result c.if-number-segments.true

pub returns-else-number-segments : goal.returns-else-number-segments
returns-else-number-segments c = not_begun c.args.at.micros c.args.number c.args.segments.now _ (le-ltb c.args.number (length c.args.segments.now) c.if-number-segments.false) (omega arith)
