use Rattle.std.proofs.Common.{◌∙◌, ap, arith}
use Rattle.std.proofs.lemmas.Result.{err_from_is_err_and}
use Rattle.cj_case.specs.Leaves.{plain_leaves}
use Rattle.cj_case.specs.Problems.{plain_problem}
use Rattle.cj_again.proofs.ChangedLemmas.{anew_fewer}
use Rattle.cj_cells.proofs.ListingLemmas.{error_is}
use Rattle.cj_outputs.specs.Outcome.{list_anew}
use Rattle.cj_screen.proofs.rescreening.leaves_again.Goals as goal

pub carried-requires-clause-anew : goal.carried-requires-clause-anew
unfolding list_anew
carried-requires-clause-anew g c = ap plain_leaves c.deref.ensures.value ∙ c.in_ok-anew.ensures.value

pub returns-in_err-anew-clause-too_many : goal.returns-in_err-anew-clause-too_many
unfolding list_anew
returns-in_err-anew-clause-too_many g c =
    let p = err_from_is_err_and c.from_residual.result c.from_residual.ensures.1 in
    let fewer = anew_fewer (plain_problem c.args.matching.now.old.now) (plain_problem c.args.matching.now.new.now) in
    rw (p.1, p.2) (λ is. omega (arith, c.in_err-anew.ensures.too_many (error_is _ _ is), fewer))

pub leaves_anew-requires-clause-few : goal.leaves_anew-requires-clause-few
leaves_anew-requires-clause-few g c = omega (arith, c.requires.few, c.args.wanted.few_leaves)
