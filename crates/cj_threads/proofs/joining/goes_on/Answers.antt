use Rattle.std.proofs.Common.{◌++◌, append-nil, rules, sym, subst}
use Rattle.cj_case.specs.PairOrder.{AreInOrderBy}
use Rattle.cj_case.proofs.PairOrderLemmas.{goes_on}
use Rattle.cj_threads.proofs.RunLemmas.{begins_nowhere, ends_nowhere}
use Rattle.cj_threads.proofs.joining.goes_on.Goals as goal

pub returns-in_default : goal.returns-in_default
returns-in_default g c = λ t one two.
    subst (λ xs. AreInOrderBy g.T.Placed.place_of (xs ++ c.args.back.now)) (sym (ends_nowhere c.args.front.now c.in_default.ensures.value)) two

pub returns-in_default-first : goal.returns-in_default-first
returns-in_default-first g c = λ t one two.
    let place = g.T.Placed.place_of in
    subst (λ xs. AreInOrderBy place (c.args.front.now ++ xs)) (sym (begins_nowhere c.args.back.now c.in_default-first.ensures.value))
    (subst (AreInOrderBy place) (sym (append-nil c.args.front.now)) one)

pub returns : goal.returns
returns g c = λ border one two.
    goes_on g.T.Placed.place_of c.args.front.now c.args.back.now c.in-Some.last.now c.in-Some-first.first.now
    (sym c.in-Some.ensures.value) (sym c.in-Some-first.ensures.value) (search rules) one two
