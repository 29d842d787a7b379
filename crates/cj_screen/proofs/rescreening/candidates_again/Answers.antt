use Rattle.std.proofs.lemmas.Result.{err_from_is_err_and}
use Rattle.cj_screen.proofs.rescreening.candidates_again.Goals as goal

pub find_among-requires-clause-limit : goal.find_among-requires-clause-limit
find_among-requires-clause-limit g c _ _ = c.args.wanted.few_leaves

pub find_among-requires-clause-measured : goal.find_among-requires-clause-measured
find_among-requires-clause-measured g c _ _ = c.in_ok-again.ensures

pub measure_again-requires-clause-measured : goal.measure_again-requires-clause-measured
measure_again-requires-clause-measured g c _ _ = c.requires.theirs

pub returns-in_err-places-clause-too_many : goal.returns-in_err-places-clause-too_many
returns-in_err-places-clause-too_many g c =
    let p = err_from_is_err_and c.from_residual.result c.from_residual.ensures.1 in
    rw (p.1, p.2) (λ is. absurd cc)

pub returns-in_err-again-clause-too_many : goal.returns-in_err-again-clause-too_many
returns-in_err-again-clause-too_many g c =
    let p = err_from_is_err_and c.from_residual-in_err-again.result c.from_residual-in_err-again.ensures.1 in
    rw (p.1, p.2) (λ is. absurd cc)
