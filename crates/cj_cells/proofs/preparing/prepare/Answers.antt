use Rattle.std.proofs.Common.{Some, ap, ◌∙◌, sym, subst}
use Rattle.cj_hermite.specs.Interpolant.{Curve, IsOver}
use Rattle.cj_case.specs.Problems.{plain_problem}
use Rattle.cj_hermite.specs.Ready.{curve_ready}
use Rattle.cj_hermite.proofs.CurveLemmas.{have_curves}
use Rattle.cj_hermite.proofs.TrackLemmas.{first_is_over, second_is_over}
use Rattle.cj_cells.proofs.preparing.prepare.Goals as goal

pub returns-clause-ready : goal.returns-clause-ready
returns-clause-ready c =
    let cell = c.args.cell in
    let case = plain_problem c.args.problem.now in
    let a = c.ready-a.result in
    let b = c.ready.result in
    let keep = c.requires in
    record {
      curves = have_curves case cell.pair.a cell.pair.b cell.first.micros cell.last.micros (curve_ready a) (curve_ready b) cell.some keep
          (c.piece_of-first.ensures ∙ ap (λ (k : Curve). Some k) (sym c.ready-a.ensures))
          (c.piece_of-second.ensures ∙ ap (λ (k : Curve). Some k) (sym c.ready.ensures));
      first_over = subst (λ (k : Curve). IsOver k cell.first.micros cell.last.micros) (sym c.ready-a.ensures)
          (first_is_over case cell.pair.a cell.pair.b cell.first.micros cell.last.micros c.piece_of-first.result cell.some keep c.piece_of-first.ensures);
      second_over = subst (λ (k : Curve). IsOver k cell.first.micros cell.last.micros) (sym c.ready.ensures)
          (second_is_over case cell.pair.a cell.pair.b cell.first.micros cell.last.micros c.piece_of-second.result cell.some keep c.piece_of-second.ensures);
    }
