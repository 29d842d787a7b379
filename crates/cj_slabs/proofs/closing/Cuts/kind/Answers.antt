use Rattle.std.proofs.Common.{◌∙◌, ap, sym, subst}
use Rattle.cj_case.specs.PlainProblems.{threshold_of}
use Rattle.cj_case.specs.Problems.{plain_problem}
use Rattle.cj_case.specs.declared.problem.Problem.{Problem}
use Rattle.cj_hermite.specs.Ready.{curve_ready}
use Rattle.cj_hermite.specs.Roots.{KeepPieces}
use Rattle.cj_hermite.proofs.TrackLemmas.{object_exists, second_state}
use Rattle.cj_slabs.proofs.CutLemmas.{IsCutFor, closed_by, hull_here}
use Rattle.cj_slabs.proofs.closing.Cuts.kind.Goals as goal

pub pair_threshold-requires : goal.pair_threshold-requires
pair_threshold-requires c =
    let cell = c.args.cell in
    let p = c.self.inside.problem.now in
    object_exists p cell.pair.b cell.first.micros (second_state (plain_problem p) cell.pair.a cell.pair.b cell.first.micros cell.last.micros
    (subst (λ (q : Problem). KeepPieces (plain_problem q) cell.pair.a cell.pair.b cell.first.micros cell.last.micros) (sym c.self.view_is) c.requires))

pub returns : goal.returns
returns c =
    let cell = c.args.cell in
    let p = c.args.self.now in
    let a = c.in_ok-a in
    let b = c.in_ok-b in
    let of_a : IsCutFor p cell.pair.a cell a.a.now = record { made = a.ensures.cut; same = a.ensures.object; from = a.ensures.first; to = a.ensures.last } in
    let of_b : IsCutFor p cell.pair.b cell b.b.now = record { made = b.ensures.cut; same = b.ensures.object; from = b.ensures.first; to = b.ensures.last } in
    closed_by p cell a.a.now b.b.now c.pair_threshold.result c.kind_by.result c.requires of_a of_b
    (c.pair_threshold.ensures.value ∙ ap (λ (q : Problem). threshold_of (plain_problem q) cell.pair.a cell.pair.b) c.self.view_is)
    (c.kind_by.ensures (curve_ready a.a.now.ready) (curve_ready b.b.now.ready) cell.first.micros cell.last.micros (hull_here p cell.pair.a cell a.a.now of_a) (hull_here p cell.pair.b cell b.b.now of_b))
