use Rattle.std.proofs.Common.{◌≡◌, ◌++◌, None, map, drop}
use Rattle.std.specs.Prelude.{option_map}
use Rattle.cj_case.specs.Pairs.{objects_of}
use Rattle.cj_grid.specs.Found.{unrepeated}
use Rattle.cj_grid.proofs.touching_pairs.without_repeats.Given as goal

abbrev pub invariant-loop-pair : goal.invariant-loop-pair
invariant-loop-pair l = map objects_of l.pairs.items ++ unrepeated (option_map objects_of l.last) (map objects_of (drop l.pair-index l.sorted)) ≡ unrepeated None (map objects_of l.sorted)
