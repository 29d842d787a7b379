use Rattle.std.proofs.Common.{◌∙◌, arith, sym}
use Rattle.cj_brief.proofs.TellingLemmas.{count_found, count_missed, found_within}
use Rattle.cj_brief.proofs.telling.count_to.Goals as goal

pub returns-in-Some-clause-within : goal.returns-in-Some-clause-within
returns-in-Some-clause-within c =
    let within = found_within c.args.leaves.now c.args.last.micros c.in-Some.at (sym c.first_end.ensures ∙ c.in-Some.is) in
    omega (arith, within)

pub returns-in-Some-clause-ends : goal.returns-in-Some-clause-ends
returns-in-Some-clause-ends c own rest ends same =
    count_found c.args.leaves.now c.args.last.micros c.in-Some.at own rest (sym c.first_end.ensures ∙ c.in-Some.is) ends same

pub returns-in-None-clause-ends : goal.returns-in-None-clause-ends
returns-in-None-clause-ends c own rest ends same =
    absurd (count_missed c.args.leaves.now c.args.last.micros own rest (sym c.first_end.ensures ∙ c.in-None.is) ends same)
