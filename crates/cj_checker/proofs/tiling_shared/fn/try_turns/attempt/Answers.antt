use Rattle.std.proofs.Common.{◌<◌, ◌*◌, List, length, map, subst, sym}
use Rattle.std.specs.Prelude.{All}
use Rattle.std.proofs.lemmas.List.Elements.{All-drop, All-take}
use Rattle.cj_case.specs.Problems.{plain_problem}
use Rattle.cj_checker.specs.declared.keys.Key.{Key}
use Rattle.cj_checker.specs.Keys.{plain_key, roots_of_keys}
use Rattle.cj_checker.specs.Tiling.{Tiles}
use Rattle.cj_checker.proofs.tiling_shared.fn.try_turns.attempt.Goals as goal

pub first_of-from-requires : goal.first_of-from-requires
first_of-from-requires c =
    subst (λ (ks : List Key). All (λ key. key.a < key.b) ks) (sym c.keys_of_turn-some.ensures)
    (All-take (λ (key : Key). key.a < key.b) 4_096 _ (All-drop (λ (key : Key). key.a < key.b) (c.args.number * 4_096) c.captures.keys.now c.requires.1))

pub tile_keys-found-requires : goal.tile_keys-found-requires
tile_keys-found-requires c =
    let n = length c.captures.problem.now.tracks in
    record {
      ordered = subst (λ (ks : List Key). All (λ key. key.a < key.b) ks) (sym c.keys_of_turn-some.ensures)
          (All-take (λ (key : Key). key.a < key.b) 4_096 _ (All-drop (λ (key : Key). key.a < key.b) (c.args.number * 4_096) c.captures.keys.now c.requires.1));
      exist = subst (λ (ks : List Key). All (λ key. key.b < n) ks) (sym c.keys_of_turn-some.ensures)
          (All-take (λ (key : Key). key.b < n) 4_096 _ (All-drop (λ (key : Key). key.b < n) (c.args.number * 4_096) c.captures.keys.now c.requires.2));
      place = c.first_of-from.ensures;
    }

pub returns : goal.returns
returns c =
    let case = plain_problem c.captures.problem.now in
    let told = c.tile_keys-found.ensures in
    record {
      tiles = subst (λ (ks : List Key). Tiles case (roots_of_keys case (map plain_key ks)) c.captures.cells.now c.first_of-from.result c.tile_keys-found.result) c.keys_of_turn-some.ensures told.tiles;
      ok = told.ok;
      err = told.err;
    }
