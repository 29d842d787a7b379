use Rattle.std.proofs.Common.{Option, refl, ap, ◌∙◌, sym, subst}
use Rattle.std.specs.Prelude.{IfSome}
use Rattle.cj_case.specs.declared.problem.Problem.{Problem}
use Rattle.cj_case.specs.Problems.{plain_problem}
use Rattle.cj_hermite.specs.Roots.{KeepPieces}
use Rattle.cj_hermite.specs.Ready.{curve_ready}
use Rattle.cj_hermite.proofs.TrackLemmas.{object_exists, second_state}
use Rattle.cj_case.specs.Cells.{plain_cell}
use Rattle.cj_bezier.specs.RootLeaves.{kind_of_cell}
use Rattle.cj_bezier.proofs.LeafLemmas.{kind_of}
use Rattle.cj_cells.specs.declared.ready_pair.ReadyPair.{ReadyPair}
use Rattle.cj_cells.specs.ReadyPairs.{IsReadyPair}
use Rattle.cj_cells.proofs.ReadyLemmas.{for_all, for_part}
use Rattle.cj_cells.proofs.looker.Looker.look.Goals as goal

pub pair_threshold-threshold-requires : goal.pair_threshold-threshold-requires
pair_threshold-threshold-requires c =
    let cell = c.args.cell in
    let case = plain_problem c.self.inside.problem.now in
    object_exists c.self.inside.problem.now cell.pair.b cell.first.micros (second_state case cell.pair.a cell.pair.b cell.first.micros cell.last.micros
    (subst (λ (p : Problem). KeepPieces (plain_problem p) cell.pair.a cell.pair.b cell.first.micros cell.last.micros) (sym c.self.view_is) c.requires))

pub returns-then-are_of-clause-kind : goal.returns-then-are_of-clause-kind
returns-then-are_of-clause-kind c =
    let case = plain_problem c.self.inside.problem.now in
    let r = c.in-Some.last in
    let told = c.if-are_of.ensures in
    let are = for_part case c.args.cell r (subst (λ (o : Option ReadyPair). IfSome o (IsReadyPair case)) c.in-Some.is c.self.invariant) (told.first_object refl) (told.second_object refl) (told.from refl) (told.to refl) in
    c.look_at.ensures.kind
    ∙ kind_of case (plain_cell c.args.cell) (curve_ready r.a) (curve_ready r.b) c.pair_threshold-threshold.result are.first are.second c.pair_threshold-threshold.ensures.value
    ∙ ap (λ (p : Problem). kind_of_cell (plain_problem p) (plain_cell c.args.cell)) c.self.view_is

pub returns-clause-kind : goal.returns-clause-kind
returns-clause-kind c =
    let case = plain_problem c.self.inside.problem.now in
    let e = c.prepare-ready.ensures in
    let r = c.prepare-ready.result in
    let are = for_all case c.args.cell r e.ready e.pair e.first e.last in
    c.look_at-2.ensures.kind
    ∙ kind_of case (plain_cell c.args.cell) (curve_ready r.a) (curve_ready r.b) c.pair_threshold-threshold.result are.first are.second c.pair_threshold-threshold.ensures.value
    ∙ ap (λ (p : Problem). kind_of_cell (plain_problem p) (plain_cell c.args.cell)) c.self.view_is

pub prepare-ready-requires : goal.prepare-ready-requires
prepare-ready-requires c =
    let cell = c.args.cell in
    subst (λ (p : Problem). KeepPieces (plain_problem p) cell.pair.a cell.pair.b cell.first.micros cell.last.micros) (sym c.self.view_is) c.requires

pub look_at-requires-clause-first_over : goal.look_at-requires-clause-first_over
look_at-requires-clause-first_over c =
    let case = plain_problem c.self.inside.problem.now in
    let told = c.if-are_of.ensures in
    (for_part case c.args.cell c.in-Some.last (subst (λ (o : Option ReadyPair). IfSome o (IsReadyPair case)) c.in-Some.is c.self.invariant)
    (told.first_object refl) (told.second_object refl) (told.from refl) (told.to refl)).first_over

pub look_at-requires-clause-second_over : goal.look_at-requires-clause-second_over
look_at-requires-clause-second_over c =
    let case = plain_problem c.self.inside.problem.now in
    let told = c.if-are_of.ensures in
    (for_part case c.args.cell c.in-Some.last (subst (λ (o : Option ReadyPair). IfSome o (IsReadyPair case)) c.in-Some.is c.self.invariant)
    (told.first_object refl) (told.second_object refl) (told.from refl) (told.to refl)).second_over

pub look_at-requires-2-clause-first_over : goal.look_at-requires-2-clause-first_over
look_at-requires-2-clause-first_over c =
    let e = c.prepare-ready.ensures in
    (for_all (plain_problem c.self.inside.problem.now) c.args.cell c.prepare-ready.result e.ready e.pair e.first e.last).first_over

pub look_at-requires-2-clause-second_over : goal.look_at-requires-2-clause-second_over
look_at-requires-2-clause-second_over c =
    let e = c.prepare-ready.ensures in
    (for_all (plain_problem c.self.inside.problem.now) c.args.cell c.prepare-ready.result e.ready e.pair e.first e.last).second_over

pub returns-then-are_of-clause-same : goal.returns-then-are_of-clause-same
returns-then-are_of-clause-same c = refl

pub returns-then-are_of-clause-closed : goal.returns-then-are_of-clause-closed
returns-then-are_of-clause-closed c = c.look_at.ensures.closed

pub returns-then-are_of-clause-halved : goal.returns-then-are_of-clause-halved
returns-then-are_of-clause-halved c = c.look_at.ensures.halved

pub returns-clause-same : goal.returns-clause-same
returns-clause-same c = c.self.view_is

pub returns-clause-closed : goal.returns-clause-closed
returns-clause-closed c = c.look_at-2.ensures.closed

pub returns-clause-halved : goal.returns-clause-halved
returns-clause-halved c = c.look_at-2.ensures.halved
