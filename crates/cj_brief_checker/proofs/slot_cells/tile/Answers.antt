use Rattle.std.proofs.Common.{ℕ, ◌<◌, ◌≤◌, List, length, map, sym, ap, ◌∙◌, subst}
use Rattle.std.specs.Prelude.{All, IfErr, IfOk}
use Rattle.cj_case.specs.declared.pair.Pair.{Pair}
use Rattle.cj_case.specs.Pairs.{objects_of}
use Rattle.cj_case.specs.Problems.{plain_problem}
use Rattle.cj_hermite.specs.Roots.{roots_in_slot}
use Rattle.cj_cert.specs.declared.cert_lines.CellLine.{CellLine}
use Rattle.cj_brief_checker.specs.Steps.{Tells}
use Rattle.cj_brief_checker.proofs.slot_cells.tile.Goals as goal

pub tile_slot-requires-clause-exist : goal.tile_slot-requires-clause-exist
tile_slot-requires-clause-exist c =
    subst (λ (ps : List Pair). All (λ pair. pair.b < length c.args.problem.now.tracks) ps) (sym c.deref.ensures.value) c.in_ok-find.ensures.exist

pub tile_slot-requires-clause-place : goal.tile_slot-requires-clause-place
tile_slot-requires-clause-place c = subst (λ (cs : List CellLine). c.args.at ≤ length cs) (sym c.deref-2.ensures.value) c.requires.place

pub returns : goal.returns
returns c =
    let case = plain_problem c.args.problem.now in
    let told = c.tile_slot.ensures in
    let found = c.tile_slot.result in
    let pairs = ap (map objects_of) c.deref.ensures.value ∙ c.in_ok-find.ensures.value in
    let cells = c.deref-2.ensures.value in
    record {
      tells = subst (λ (ps : List (ℕ × ℕ)). Tells case (roots_in_slot case c.args.slot ps) c.args.cert.now.cells.items c.args.at found) pairs
          (subst (λ (cs : List CellLine). Tells case (roots_in_slot case c.args.slot (map objects_of c.deref.result.now)) cs c.args.at found) cells told.tells);
      ok = subst (λ (cs : List CellLine). IfOk found (λ next. next ≤ length cs)) cells told.ok;
      err = subst (λ (cs : List CellLine). IfErr found (λ fault. fault.at ≤ length cs)) cells told.err;
    }
