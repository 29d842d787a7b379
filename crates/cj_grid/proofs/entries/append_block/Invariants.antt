use Rattle.std.proofs.Common.{◌≡◌, ◌+◌, ◌-◌, ◌≤◌, ◌++◌, max}
use Rattle.std.specs.List.{flat_map, range_with_len}
use Rattle.cj_grid.specs.Buckets.{in_layer, numbers_in}
use Rattle.cj_grid.proofs.entries.append_block.Given as goal

abbrev pub invariant-loop-x : goal.invariant-loop-x
invariant-loop-x l = record {
  most : l.x ≤ max l.block.x.first (l.block.x.last + 1);
  entered : l.entries.items ≡ l.initial.entries.items ++ flat_map (λ x. in_layer l.object x (numbers_in l.block.y) (numbers_in l.block.z)) (range_with_len l.block.x.first (l.x - l.block.x.first));
}
