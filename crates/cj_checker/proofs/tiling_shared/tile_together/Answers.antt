use Rattle.std.proofs.Common.{ℕ, ◌+◌, ◌*◌, ◌<◌, ◌≤◌, List, ◌++◌, ap, arith, drop, length, map, refl, subst, sym, ◌∙◌}
use Rattle.std.specs.Prelude.{All, IfErr, IfOk, Result}
use Rattle.std.proofs.lemmas.List.Elements.{All-drop, All-take}
use Rattle.cj_case.specs.Problems.{plain_problem}
use Rattle.cj_cert.specs.Certificates.{plain_cell_line}
use Rattle.cj_checker.specs.declared.cell_fault.CellFault.{CellFault}
use Rattle.cj_checker.specs.declared.keys.Key.{Key}
use Rattle.cj_checker.specs.declared.tiled.Tiled.{Tiled}
use Rattle.cj_checker.specs.First.{cells_from}
use Rattle.cj_checker.specs.Keys.{plain_key, roots_of_keys}
use Rattle.cj_checker.specs.Tiling.{IsTiled, goes_on, keys_at}
use Rattle.cj_checker.proofs.TurnLemmas.{none_behind, turn_told}
use Rattle.cj_checker.proofs.tiling_shared.tile_together.Goals as goal

pub loop-number-init : goal.loop-number-init
loop-number-init g c = record { place = c.requires.place; rest = λ line left. refl }

pub keys_of_turn-some-requires : goal.keys_of_turn-some-requires
keys_of_turn-some-requires g c = c.in_ok-tries.ensures.inside c.loop-number.number (omega arith)

pub found_from-found-requires-clause-ordered : goal.found_from-found-requires-clause-ordered
found_from-found-requires-clause-ordered g c =
    subst (λ (ks : List Key). All (λ key. key.a < key.b) ks) (sym c.keys_of_turn-some.ensures)
    (All-take (λ (key : Key). key.a < key.b) 4_096 _ (All-drop (λ (key : Key). key.a < key.b) (c.loop-number.number * 4_096) c.args.keys.now c.requires.ordered))

pub found_from-found-requires-clause-exist : goal.found_from-found-requires-clause-exist
found_from-found-requires-clause-exist g c =
    let n = length c.args.problem.now.tracks in
    subst (λ (ks : List Key). All (λ key. key.b < n) ks) (sym c.keys_of_turn-some.ensures)
    (All-take (λ (key : Key). key.b < n) 4_096 _ (All-drop (λ (key : Key). key.b < n) (c.loop-number.number * 4_096) c.args.keys.now c.requires.exist))

pub found_from-found-requires-clause-tried : goal.found_from-found-requires-clause-tried
found_from-found-requires-clause-tried g c =
    let case = plain_problem c.args.problem.now in
    let number = c.loop-number.number in
    subst (λ (ks : List Key). IsTiled case ks c.args.cells.now c.index.result.now.from c.index.result.now.found) (sym c.keys_of_turn-some.ensures)
    (subst (λ (t : Tiled). IsTiled case (keys_at number c.args.keys.now) c.args.cells.now t.from t.found) (sym c.index.ensures)
    (c.in_ok-tries.ensures.each number c.index.result.now (omega arith)))

pub loop-number-preserved : goal.loop-number-preserved
loop-number-preserved g c =
    let case = plain_problem c.args.problem.now in
    let number = c.loop-number.number in
    let is = subst (λ (ks : List Key). IsTiled case ks c.args.cells.now c.loop-number.at c.found_from-found.result) c.keys_of_turn-some.ensures c.found_from-found.ensures in
    record {
      place = subst (λ (r : Result ℕ CellFault). IfOk r (λ next. next ≤ length c.args.cells.now)) c.in-Ok.is is.ok;
      rest = λ line left. turn_told case c.args.keys.now c.args.cells.now number c.loop-number.at line left c.found_from-found.result is (c.loop-number.invariant.rest line left)
          ∙ ap (goes_on case line (roots_of_keys case (map plain_key (drop ((number + 1) * 4_096) c.args.keys.now)) ++ left) (map plain_cell_line c.args.cells.now)) c.in-Ok.is;
    }

pub returns-in-Err : goal.returns-in-Err
returns-in-Err g c =
    let case = plain_problem c.args.problem.now in
    let number = c.loop-number.number in
    let is = subst (λ (ks : List Key). IsTiled case ks c.args.cells.now c.loop-number.at c.found_from-found.result) c.keys_of_turn-some.ensures c.found_from-found.ensures in
    record {
      tiles = λ line left. turn_told case c.args.keys.now c.args.cells.now number c.loop-number.at line left c.found_from-found.result is (c.loop-number.invariant.rest line left)
          ∙ ap (goes_on case line (roots_of_keys case (map plain_key (drop ((number + 1) * 4_096) c.args.keys.now)) ++ left) (map plain_cell_line c.args.cells.now)) c.in-Err.is;
      ok = tt;
      err = subst (λ (r : Result ℕ CellFault). IfErr r (λ fault. fault.at ≤ length c.args.cells.now)) c.in-Err.is is.err;
    }

pub returns : goal.returns
returns g c =
    let case = plain_problem c.args.problem.now in
    let at = c.loop-number.at in
    record {
      tiles = λ line left. c.loop-number.invariant.rest line left
          ∙ ap (λ rs. cells_from case (line + at) rs (drop at (map plain_cell_line c.args.cells.now)))
          (none_behind case c.args.keys.now c.loop-number.number left (omega (arith, c.in_ok-tries.ensures.all)));
      ok = c.loop-number.invariant.place;
      err = tt;
    }
