use Rattle.std.proofs.Common.{ap, ◌∙◌, sym, subst, Some}
use Rattle.cj_hermite.specs.Interpolant.{Curve, IsOver}
use Rattle.cj_case.specs.Problems.{plain_problem}
use Rattle.cj_hermite.proofs.TrackLemmas.{first_is_over, second_is_over}
use Rattle.cj_meet.proofs.approaching.prepare.Goals as goal

pub returns-clause-first : goal.returns-clause-first
returns-clause-first c = c.piece_of-a.ensures ∙ ap (λ (k : Curve). Some k) (sym c.ready-first.ensures)

pub returns-clause-second : goal.returns-clause-second
returns-clause-second c = c.piece_of-b.ensures ∙ ap (λ (k : Curve). Some k) (sym c.ready-second.ensures)

pub returns-clause-first_over : goal.returns-clause-first_over
returns-clause-first_over c =
    let cell = c.args.leaf.now.cell in
    subst (λ (k : Curve). IsOver k cell.first.micros cell.last.micros) (sym c.ready-first.ensures)
    (first_is_over (plain_problem c.args.problem.now) cell.pair.a cell.pair.b cell.first.micros cell.last.micros c.piece_of-a.result cell.some c.requires c.piece_of-a.ensures)

pub returns-clause-second_over : goal.returns-clause-second_over
returns-clause-second_over c =
    let cell = c.args.leaf.now.cell in
    subst (λ (k : Curve). IsOver k cell.first.micros cell.last.micros) (sym c.ready-second.ensures)
    (second_is_over (plain_problem c.args.problem.now) cell.pair.a cell.pair.b cell.first.micros cell.last.micros c.piece_of-b.result cell.some c.requires c.piece_of-b.ensures)
