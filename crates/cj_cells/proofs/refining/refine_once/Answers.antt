use Rattle.cj_case.specs.Problems.{plain_problem}
use Rattle.cj_hermite.specs.Ready.{curve_ready}
use Rattle.cj_case.specs.Cells.{plain_cell}
use Rattle.cj_bezier.proofs.LeafLemmas.{described}
use Rattle.cj_hermite.proofs.CurveLemmas.{have_curves}
use Rattle.cj_hermite.proofs.TrackLemmas.{object_exists, second_state}
use Rattle.cj_bezier.proofs.LeafLemmas.{leaves_of}
use Rattle.cj_cells.proofs.LeafLemmas.{splits_of_two}
use Rattle.cj_cells.proofs.ReadyLemmas.{for_all}
use Rattle.cj_cells.proofs.refining.refine_once.Goals as goal

pub pair_threshold-threshold-requires : goal.pair_threshold-threshold-requires
pair_threshold-threshold-requires g c =
    let cell = c.args.cell in
    object_exists c.args.problem.now cell.pair.b cell.first.micros (second_state (plain_problem c.args.problem.now) cell.pair.a cell.pair.b cell.first.micros cell.last.micros c.requires.pieces)

pub refine_between-requires-clause-first_over : goal.refine_between-requires-clause-first_over
refine_between-requires-clause-first_over g c =
    let e = c.prepare-ready.ensures in
    (for_all (plain_problem c.args.problem.now) c.args.cell c.prepare-ready.result e.ready e.pair e.first e.last).first_over

pub refine_between-requires-clause-second_over : goal.refine_between-requires-clause-second_over
refine_between-requires-clause-second_over g c =
    let e = c.prepare-ready.ensures in
    (for_all (plain_problem c.args.problem.now) c.args.cell c.prepare-ready.result e.ready e.pair e.first e.last).second_over

pub returns-clause-ok : goal.returns-clause-ok
returns-clause-ok g c =
    let case = plain_problem c.args.problem.now in
    let e = c.prepare-ready.ensures in
    let r = c.prepare-ready.result in
    let are = for_all case c.args.cell r e.ready e.pair e.first e.last in
    let same = leaves_of case (plain_cell c.args.cell) (curve_ready r.a) (curve_ready r.b) c.pair_threshold-threshold.result are.first are.second c.pair_threshold-threshold.ensures.value in
    rw same c.refine_between.ensures.ok

pub returns-clause-too_many : goal.returns-clause-too_many
returns-clause-too_many g c =
    let case = plain_problem c.args.problem.now in
    let e = c.prepare-ready.ensures in
    let r = c.prepare-ready.result in
    let are = for_all case c.args.cell r e.ready e.pair e.first e.last in
    let same = leaves_of case (plain_cell c.args.cell) (curve_ready r.a) (curve_ready r.b) c.pair_threshold-threshold.result are.first are.second c.pair_threshold-threshold.ensures.value in
    rw same c.refine_between.ensures.too_many

pub returns-clause-err : goal.returns-clause-err
returns-clause-err g c =
    let case = plain_problem c.args.problem.now in
    let e = c.prepare-ready.ensures in
    let r = c.prepare-ready.result in
    let are = for_all case c.args.cell r e.ready e.pair e.first e.last in
    let same = leaves_of case (plain_cell c.args.cell) (curve_ready r.a) (curve_ready r.b) c.pair_threshold-threshold.result are.first are.second c.pair_threshold-threshold.ensures.value in
    rw same c.refine_between.ensures.err

pub returns-clause-leaves : goal.returns-clause-leaves
returns-clause-leaves g c =
    let cell = c.args.cell in
    let case = plain_problem c.args.problem.now in
    let e = c.prepare-ready.ensures in
    let r = c.prepare-ready.result in
    let are = for_all case cell r e.ready e.pair e.first e.last in
    described case (plain_cell cell) (curve_ready r.a) (curve_ready r.b) c.args.problem.now.least cell.some
    are.first_over are.second_over
    (have_curves case cell.pair.a cell.pair.b cell.first.micros cell.last.micros (curve_ready r.a) (curve_ready r.b) cell.some c.requires.pieces are.first are.second)

pub returns-clause-steps : goal.returns-clause-steps
returns-clause-steps g c =
    let case = plain_problem c.args.problem.now in
    let e = c.prepare-ready.ensures in
    let r = c.prepare-ready.result in
    let are = for_all case c.args.cell r e.ready e.pair e.first e.last in
    let same = leaves_of case (plain_cell c.args.cell) (curve_ready r.a) (curve_ready r.b) c.pair_threshold-threshold.result are.first are.second c.pair_threshold-threshold.ensures.value in
    let halved = splits_of_two case (plain_cell c.args.cell) (curve_ready r.a) (curve_ready r.b) c.pair_threshold-threshold.result are.first are.second c.pair_threshold-threshold.ensures.value in
    rw (same, halved) c.refine_between.ensures.steps

pub returns-clause-few_steps : goal.returns-clause-few_steps
returns-clause-few_steps g c =
    let case = plain_problem c.args.problem.now in
    let e = c.prepare-ready.ensures in
    let r = c.prepare-ready.result in
    let are = for_all case c.args.cell r e.ready e.pair e.first e.last in
    let same = leaves_of case (plain_cell c.args.cell) (curve_ready r.a) (curve_ready r.b) c.pair_threshold-threshold.result are.first are.second c.pair_threshold-threshold.ensures.value in
    let halved = splits_of_two case (plain_cell c.args.cell) (curve_ready r.a) (curve_ready r.b) c.pair_threshold-threshold.result are.first are.second c.pair_threshold-threshold.ensures.value in
    rw (same, halved) c.refine_between.ensures.few_steps

pub returns-clause-no_fewer : goal.returns-clause-no_fewer
returns-clause-no_fewer g c = c.refine_between.ensures.no_fewer
