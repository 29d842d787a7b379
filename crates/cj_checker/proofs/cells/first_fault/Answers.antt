use Rattle.std.specs.Prelude.{IfErr, IfOk, Result}
use Rattle.std.proofs.Common.{◌≡◌, ℕ, ◌+◌, ◌≤◌, List, [], drop, map, length, sym, ap, ◌∙◌, subst, arith}
use Rattle.std.proofs.lemmas.List.{length-map}
use Rattle.cj_track.specs.Tracks.{plain_track}
use Rattle.cj_case.specs.Problems.{plain_problem}
use Rattle.cj_case.specs.Cells.{PlainCell}
use Rattle.cj_case.specs.Slots.{slot_count}
use Rattle.cj_cert.specs.declared.cert_lines.CellLine.{CellLine}
use Rattle.cj_cert.specs.Certificates.{plain_cell_line, plain_certificate}
use Rattle.cj_cert.specs.Listed.{is_candidate_listed}
use Rattle.cj_checker.specs.declared.cell_fault.CellFault.{CellFault}
use Rattle.cj_checker.specs.declared.keys.Key.{Key}
use Rattle.cj_checker.specs.First.{cells_from, first_cell_line}
use Rattle.cj_checker.specs.Keys.{roots_in_rows, AreKeysIn}
use Rattle.cj_checker.specs.Tiling.{IsTiled, goes_on}
use Rattle.cj_checker.proofs.CauseLemmas.{cells_done, left_over}
use Rattle.cj_checker.proofs.KeyLemmas.{keys_are, roots_are, roots_none_left}
use Rattle.cj_checker.proofs.TilingLemmas.{drop_past}
use Rattle.cj_checker.proofs.TurnLemmas.{round_told}
use Rattle.cj_checker.proofs.cells.first_fault.Goals as goal

pub loop-first-init : goal.loop-first-init
loop-first-init g c =
    let case = plain_problem c.args.problem.now in
    let cert = plain_certificate c.args.cert.now in
    let zero : first_cell_line cert ≡ first_cell_line cert + 0 = omega arith in
    record {
      within = omega arith;
      place = omega arith;
      rest = λ i. cells_from case (zero i) (roots_are (is_candidate_listed case cert) case i) (map plain_cell_line c.args.cert.now.cells.items);
    }

pub tile_together-requires-clause-ordered : goal.tile_together-requires-clause-ordered
tile_together-requires-clause-ordered g c =
    let case = plain_problem c.args.problem.now in
    let count = length-map c.args.problem.now.tracks plain_track in
    let round = c.in_ok-round.ensures in
    let are = keys_are (is_candidate_listed case (plain_certificate c.args.cert.now)) case c.loop-first.first c.in_ok-round.round.end c.in_ok-round.round.keys.items
    (let some = round.some in omega arith) (let within = round.within in omega arith) round.keys in
    let now = subst (λ (ks : List Key). AreKeysIn (is_candidate_listed case (plain_certificate c.args.cert.now)) c.loop-first.first c.in_ok-round.round.end (length case.tracks) (slot_count case.first case.last) ks)
    (sym c.deref.ensures.value) are in
    λ lifetimes outlive k d lt. (now k d lt).ordered

pub tile_together-requires-clause-exist : goal.tile_together-requires-clause-exist
tile_together-requires-clause-exist g c =
    let case = plain_problem c.args.problem.now in
    let count = length-map c.args.problem.now.tracks plain_track in
    let round = c.in_ok-round.ensures in
    let are = keys_are (is_candidate_listed case (plain_certificate c.args.cert.now)) case c.loop-first.first c.in_ok-round.round.end c.in_ok-round.round.keys.items
    (let some = round.some in omega arith) (let within = round.within in omega arith) round.keys in
    let now = subst (λ (ks : List Key). AreKeysIn (is_candidate_listed case (plain_certificate c.args.cert.now)) c.loop-first.first c.in_ok-round.round.end (length case.tracks) (slot_count case.first case.last) ks)
    (sym c.deref.ensures.value) are in
    λ lifetimes outlive k d lt. let exists = (now k d lt).exists in omega (arith, exists, count)

pub returns-in-Err : goal.returns-in-Err
returns-in-Err g c =
    let case = plain_problem c.args.problem.now in
    let cert = plain_certificate c.args.cert.now in
    let candidate = is_candidate_listed case cert in
    let count = length-map c.args.problem.now.tracks plain_track in
    let round = c.in_ok-round.ensures in
    let first = c.loop-first.first in
    let end = c.in_ok-round.round.end in
    let line = first_cell_line cert in
    let cells = c.args.cert.now.cells.items in
    let is = subst (λ (ks : List Key). IsTiled case ks c.args.cert.now.cells.items c.loop-first.at c.in_ok-found.found) c.deref.ensures.value
    (subst (λ (cs : List CellLine). IsTiled case c.deref.result.now cs c.loop-first.at c.in_ok-found.found) c.deref-in-loop-first.ensures.value c.in_ok-found.ensures) in
    c.failure_at.ensures
    ∙ sym (round_told candidate case first end c.loop-first.at line c.in_ok-round.round.keys.items cells c.in_ok-found.found
    (let some = round.some in omega arith) (let within = round.within in omega arith) round.keys is c.loop-first.invariant.rest
    ∙ ap (goes_on case line (roots_in_rows candidate case end (length case.tracks)) (map plain_cell_line cells)) c.in-Err.is)

pub failure_at-requires-clause-place : goal.failure_at-requires-clause-place
failure_at-requires-clause-place g c =
    let case = plain_problem c.args.problem.now in
    let is = subst (λ (ks : List Key). IsTiled case ks c.args.cert.now.cells.items c.loop-first.at c.in_ok-found.found) c.deref.ensures.value
    (subst (λ (cs : List CellLine). IsTiled case c.deref.result.now cs c.loop-first.at c.in_ok-found.found) c.deref-in-loop-first.ensures.value c.in_ok-found.ensures) in
    let there = subst (λ (r : Result ℕ CellFault). IfErr r (λ fault. fault.at ≤ length c.args.cert.now.cells.items)) c.in-Err.is is.err in
    omega (arith, there, c.args.cert.now.cells.ok.0)

pub loop-first-preserved : goal.loop-first-preserved
loop-first-preserved g c =
    let case = plain_problem c.args.problem.now in
    let cert = plain_certificate c.args.cert.now in
    let candidate = is_candidate_listed case cert in
    let count = length-map c.args.problem.now.tracks plain_track in
    let round = c.in_ok-round.ensures in
    let first = c.loop-first.first in
    let end = c.in_ok-round.round.end in
    let line = first_cell_line cert in
    let cells = c.args.cert.now.cells.items in
    let is = subst (λ (ks : List Key). IsTiled case ks c.args.cert.now.cells.items c.loop-first.at c.in_ok-found.found) c.deref.ensures.value
    (subst (λ (cs : List CellLine). IsTiled case c.deref.result.now cs c.loop-first.at c.in_ok-found.found) c.deref-in-loop-first.ensures.value c.in_ok-found.ensures) in
    record {
      within = c.in_ok-round.ensures.within;
      place = subst (λ (r : Result ℕ CellFault). IfOk r (λ next. next ≤ length cells)) c.in-Ok.is is.ok;
      rest = round_told candidate case first end c.loop-first.at line c.in_ok-round.round.keys.items cells c.in_ok-found.found
          (let some = round.some in omega arith) (let within = round.within in omega arith) round.keys is c.loop-first.invariant.rest
          ∙ ap (goes_on case line (roots_in_rows candidate case end (length case.tracks)) (map plain_cell_line cells)) c.in-Ok.is;
    }

pub returns-then-at-len : goal.returns-then-at-len
returns-then-at-len g c =
    let case = plain_problem c.args.problem.now in
    let cert = plain_certificate c.args.cert.now in
    let count = length-map c.args.problem.now.tracks plain_track in
    let all = ap length c.as_slice.ensures.value in
    let line = first_cell_line cert + c.loop-first.at in
    c.failure_at-then-at-len.ensures
    ∙ sym (c.loop-first.invariant.rest
    ∙ ap (λ (rs : List PlainCell). cells_from case line rs (drop c.loop-first.at (map plain_cell_line c.args.cert.now.cells.items)))
    (roots_none_left (is_candidate_listed case cert) case c.loop-first.first (omega arith))
    ∙ left_over case line c.args.cert.now.cells.items c.loop-first.at (omega (arith, c.args.cert.now.cells.ok.0)))

pub returns : goal.returns
returns g c =
    let case = plain_problem c.args.problem.now in
    let cert = plain_certificate c.args.cert.now in
    let count = length-map c.args.problem.now.tracks plain_track in
    let all = ap length c.as_slice.ensures.value in
    let line = first_cell_line cert + c.loop-first.at in
    sym (c.loop-first.invariant.rest
    ∙ ap (λ (rs : List PlainCell). cells_from case line rs (drop c.loop-first.at (map plain_cell_line c.args.cert.now.cells.items)))
    (roots_none_left (is_candidate_listed case cert) case c.loop-first.first (omega arith))
    ∙ ap (cells_from case line []) (drop_past plain_cell_line c.args.cert.now.cells.items c.loop-first.at (omega (arith, c.args.cert.now.cells.ok.0)))
    ∙ cells_done case line)
