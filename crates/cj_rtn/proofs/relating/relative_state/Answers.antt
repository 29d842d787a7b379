use Rattle.std.proofs.Common.{◌∙◌}
use Rattle.cj_case.specs.Problems.{plain_problem}
use Rattle.cj_hermite.specs.Interpolant.{curve_of}
use Rattle.cj_rtn.proofs.ObjectLemmas.{with_both, without_first, without_second}
use Rattle.cj_rtn.proofs.relating.relative_state.Goals as goal

pub returns-in_err-a : goal.returns-in_err-a
returns-in_err-a c =
    rw c.from_residual.ensures (without_first (plain_problem c.args.problem.now) c.args.pair.a c.args.pair.b c.args.at.micros c.in_err-a.ensures.curve)

pub returns-in_err-b : goal.returns-in_err-b
returns-in_err-b c =
    rw c.from_residual-in_err-b.ensures (without_second (plain_problem c.args.problem.now) c.args.pair.a c.args.pair.b c.args.at.micros c.in_err-b.ensures.curve)

pub returns : goal.returns
returns c =
    c.rtn.ensures.value
    ∙ with_both (plain_problem c.args.problem.now) c.args.pair.a c.args.pair.b c.args.at.micros (curve_of c.in_ok-a.a) (curve_of c.in_ok-b.b) c.in_ok-a.ensures.curve c.in_ok-b.ensures.curve
