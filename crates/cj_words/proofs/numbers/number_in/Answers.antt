use Rattle.std.proofs.Common.{◌≤◌, refl, sym}
use Rattle.std.proofs.lemmas.Bool.{le-leb}
use Rattle.cj_words.proofs.numbers.number_in.Goals as goal

at_least : (c : goal.Then-number-from) → c.args.least ≤ c.in-Some.number
at_least c = rw c.from.ensures at c.if-from-number.true

at_most : (c : goal.Then-number-from) → c.in-Some.number ≤ c.args.greatest
at_most c = rw c.from-then-from-number.ensures at c.if-number-from.true

pub returns-in-Some-clause-value : goal.returns-in-Some-clause-value
returns-in-Some-clause-value c = rw (sym c.in-Some.ensures.1, c.in-Some.ensures.0, le-leb _ _ (at_least c), le-leb _ _ (at_most c)) refl

pub returns-in-Some-clause-some : goal.returns-in-Some-clause-some
returns-in-Some-clause-some c = at_least c

pub returns-in-Some-clause-most : goal.returns-in-Some-clause-most
returns-in-Some-clause-most c = at_most c
