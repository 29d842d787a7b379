use Rattle.std.proofs.Common.{arith, sym, ◌∙◌, ap, ℕ, ◌^◌}
use Rattle.cj_kvn.specs.Numbers.{nearest}
use Rattle.cj_kvn.proofs.CountLemmas.{short_by_count, nearest_least, nearest_most}
use Rattle.cj_kvn.proofs.rounding.rounded_digits.Goals as goal

pub overflow_cast-result : goal.overflow_cast-result
overflow_cast-result c = omega (arith, short_by_count c.args.leading 18 (omega arith))

pub overflow_cast-result-else-dropped-eq0 : goal.overflow_cast-result-else-dropped-eq0
overflow_cast-result-else-dropped-eq0 c = omega (arith, c.lowered.ensures ∙ ap (λ (k : ℕ). nearest c.args.leading (10 ^ k)) c.from.ensures, nearest_most c.args.leading c.args.dropped (omega arith) (sym c.requires.dropped))

pub returns-then-dropped-eq0-clause-short : goal.returns-then-dropped-eq0-clause-short
returns-then-dropped-eq0-clause-short c = omega (arith, short_by_count c.args.leading 18 (omega arith))

pub returns-else-dropped-eq0-clause-some : goal.returns-else-dropped-eq0-clause-some
returns-else-dropped-eq0-clause-some c = omega (arith, c.lowered.ensures ∙ ap (λ (k : ℕ). nearest c.args.leading (10 ^ k)) c.from.ensures, nearest_least c.args.leading c.args.dropped (omega arith) (sym c.requires.dropped))

pub returns-else-dropped-eq0-clause-short : goal.returns-else-dropped-eq0-clause-short
returns-else-dropped-eq0-clause-short c = omega (arith, c.lowered.ensures ∙ ap (λ (k : ℕ). nearest c.args.leading (10 ^ k)) c.from.ensures, nearest_most c.args.leading c.args.dropped (omega arith) (sym c.requires.dropped))
