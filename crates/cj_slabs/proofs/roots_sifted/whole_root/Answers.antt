use Rattle.std.proofs.Common.{subst}
use Rattle.cj_case.specs.Problems.{plain_problem}
use Rattle.cj_case.specs.declared.problem.Problem.{Problem}
use Rattle.cj_hermite.specs.Roots.{KeepPieces}
use Rattle.cj_hermite.proofs.WholeLemmas.{one_in_slot}
use Rattle.cj_slabs.proofs.roots_sifted.whole_root.Goals as goal

pub returns-then-are_whole-clause-root : goal.returns-then-are_whole-clause-root
returns-then-are_whole-clause-root c =
    let pair = c.args.pair in
    let ticks = c.in_ok-ticks.ticks in
    one_in_slot (plain_problem c.args.problem.now) c.args.slot pair.a pair.b ticks.first.micros ticks.last.micros c.in_ok-ticks.ensures.some
    (subst (λ (p : Problem). KeepPieces (plain_problem p) pair.a pair.b ticks.first.micros ticks.last.micros) c.requires (c.are_whole.ensures.whole c.if-are_whole.true))
    c.in_ok-ticks.ensures.first c.in_ok-ticks.ensures.last
