use Rattle.std.proofs.lemmas.Result.{err_from_is_err_and}
use Rattle.cj_candidates.proofs.MeasuredLemmas.{theirs_in}
use Rattle.cj_candidates.proofs.filtering.find_candidates.Goals as goal

pub find_among-requires-clause-limit : goal.find_among-requires-clause-limit
find_among-requires-clause-limit g c _ _ = c.requires

pub find_among-requires-clause-measured : goal.find_among-requires-clause-measured
find_among-requires-clause-measured g c _ _ = c.in_ok-measured.ensures.theirs

pub returns-clause-theirs : goal.returns-clause-theirs
returns-clause-theirs g c = theirs_in c.args.problem.now c.in_ok-measured.measured c.find_among.result c.find_among.ensures.same c.in_ok-measured.ensures.theirs

pub returns-in_err-measured-clause-too_many : goal.returns-in_err-measured-clause-too_many
returns-in_err-measured-clause-too_many g c =
    let p = err_from_is_err_and c.from_residual.result c.from_residual.ensures.1 in
    rw (p.1, p.2) (λ is. absurd cc)
