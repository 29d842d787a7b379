use Rattle.std.proofs.Common.{◌≡◌, ◌+◌, ◌++◌, List, [], ap, arith, drop, length-drop, map, ◌∙◌}
use Rattle.std.proofs.lemmas.List.{nil_from_length}
use Rattle.cj_case.specs.Problems.{plain_problem}
use Rattle.cj_cert.specs.Certificates.{plain_cell_line}
use Rattle.cj_checker.specs.declared.keys.Key.{Key}
use Rattle.cj_checker.specs.First.{cells_from}
use Rattle.cj_checker.specs.Keys.{plain_key, roots_of_keys}
use Rattle.cj_checker.proofs.tiling.tile_keys.Goals as goal

pub pair-requires : goal.pair-requires
pair-requires c = c.requires.ordered c.loop-key.key-index _ c.loop-key-test.true

pub tile_slot-requires-clause-exists : goal.tile_slot-requires-clause-exists
tile_slot-requires-clause-exists c = rw c.pair.ensures.b (c.requires.exist c.loop-key.key-index _ c.loop-key-test.true)

pub returns-clause-tiles : goal.returns-clause-tiles
returns-clause-tiles c line left =
    let case = plain_problem c.args.problem.now in
    let at = c.loop-key.at in
    let none : drop c.loop-key.key-index c.args.keys.now ≡ [] = nil_from_length _ (omega (arith, length-drop c.loop-key.key-index c.args.keys.now)) in
    c.loop-key.invariant.rest line left
    ∙ ap (λ (keys : List Key). cells_from case (line + at) (roots_of_keys case (map plain_key keys) ++ left) (drop at (map plain_cell_line c.args.cells.now))) none
