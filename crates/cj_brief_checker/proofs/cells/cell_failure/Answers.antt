use Rattle.std.proofs.Common.{◌≡◌, ℕ, ◌+◌, ◌≤◌, false, List, [], drop, map, length, sym, ap, ◌∙◌, subst, arith}
use Rattle.std.specs.Prelude.{IfErr, IfOk, Option, Result}
use Rattle.cj_case.specs.Problems.{plain_problem}
use Rattle.cj_case.specs.Leaves.{PlainLeaf}
use Rattle.cj_brief.specs.Certificates.{plain_brief}
use Rattle.cj_cert.specs.Certificates.{plain_cell_line}
use Rattle.cj_checker.specs.declared.cell_fault.CellFault.{CellFault}
use Rattle.cj_checker.proofs.TilingLemmas.{drop_past}
use Rattle.cj_brief_checker.specs.declared.tiled.Tiled.{Tiled}
use Rattle.cj_brief_checker.specs.First.{first_cell_line, told_from}
use Rattle.cj_brief_checker.specs.SlotCells.{IsTried}
use Rattle.cj_brief_checker.specs.Steps.{told_behind}
use Rattle.cj_brief_checker.proofs.SlotLemmas.{all_roots, no_roots_left, roots_from, slot_told}
use Rattle.cj_brief_checker.proofs.StepLemmas.{left_over, told_none}
use Rattle.cj_brief_checker.proofs.cells.cell_failure.Goals as goal

pub loop-slot-init : goal.loop-slot-init
loop-slot-init g c =
    let case = plain_problem c.args.problem.now in
    let cert = plain_brief c.args.cert.now in
    let zero : first_cell_line cert ≡ first_cell_line cert + 0 = omega arith in
    record {
      place = omega arith;
      rest = λ i. told_from case (map plain_cell_line c.args.cert.now.cells.items) (zero i) false (all_roots case cert i);
    }

pub found_from-requires-clause-tried : goal.found_from-requires-clause-tried
found_from-requires-clause-tried g c =
    subst (λ (t : Option Tiled). IsTried c.args.problem.now c.args.cert.now c.loop-slot.slot t) (sym c.index-tried.ensures)
    (c.in_ok-tries.ensures.each c.loop-slot.slot c.index-tried.result.now (omega arith))

pub returns-in-Err : goal.returns-in-Err
returns-in-Err g c =
    let case = plain_problem c.args.problem.now in
    let cert = plain_brief c.args.cert.now in
    let cells = map plain_cell_line c.args.cert.now.cells.items in
    c.failure_at.ensures
    ∙ sym (slot_told c.args.problem.now c.args.cert.now c.loop-slot.slot c.loop-slot.at c.in_ok-found.found (omega arith) c.in_ok-found.ensures c.loop-slot.invariant.rest
    ∙ ap (told_behind case (first_cell_line cert) (roots_from case cert (c.loop-slot.slot + 1)) cells) c.in-Err.is)

pub failure_at-requires-clause-place : goal.failure_at-requires-clause-place
failure_at-requires-clause-place g c =
    let there = subst (λ (r : Result ℕ CellFault). IfErr r (λ fault. fault.at ≤ length c.args.cert.now.cells.items)) c.in-Err.is c.in_ok-found.ensures.err in
    omega (arith, there, c.args.cert.now.cells.ok.0)

pub loop-slot-preserved : goal.loop-slot-preserved
loop-slot-preserved g c =
    let case = plain_problem c.args.problem.now in
    let cert = plain_brief c.args.cert.now in
    let cells = map plain_cell_line c.args.cert.now.cells.items in
    record {
      place = subst (λ (r : Result ℕ CellFault). IfOk r (λ next. next ≤ length c.args.cert.now.cells.items)) c.in-Ok.is c.in_ok-found.ensures.ok;
      rest = slot_told c.args.problem.now c.args.cert.now c.loop-slot.slot c.loop-slot.at c.in_ok-found.found (omega arith) c.in_ok-found.ensures c.loop-slot.invariant.rest
          ∙ ap (told_behind case (first_cell_line cert) (roots_from case cert (c.loop-slot.slot + 1)) cells) c.in-Ok.is;
    }

pub returns-then-at-len : goal.returns-then-at-len
returns-then-at-len g c =
    let case = plain_problem c.args.problem.now in
    let cert = plain_brief c.args.cert.now in
    let line = first_cell_line cert + c.loop-slot.at in
    c.failure_at-then-at-len.ensures
    ∙ sym (c.loop-slot.invariant.rest
    ∙ ap (told_from case (drop c.loop-slot.at (map plain_cell_line c.args.cert.now.cells.items)) line false) (no_roots_left case cert c.loop-slot.slot (omega arith))
    ∙ left_over case line c.args.cert.now.cells.items c.loop-slot.at (omega (arith, c.args.cert.now.cells.ok.0)))

pub returns : goal.returns
returns g c =
    let case = plain_problem c.args.problem.now in
    let cert = plain_brief c.args.cert.now in
    let line = first_cell_line cert + c.loop-slot.at in
    sym (c.loop-slot.invariant.rest
    ∙ ap (told_from case (drop c.loop-slot.at (map plain_cell_line c.args.cert.now.cells.items)) line false) (no_roots_left case cert c.loop-slot.slot (omega arith))
    ∙ ap (λ (ss : List PlainLeaf). told_from case ss line false []) (drop_past plain_cell_line c.args.cert.now.cells.items c.loop-slot.at (omega (arith, c.args.cert.now.cells.ok.0)))
    ∙ told_none case line false)
