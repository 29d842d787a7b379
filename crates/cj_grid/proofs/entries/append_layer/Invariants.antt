use Rattle.std.proofs.Common.{◌≡◌, ◌+◌, ◌-◌, ◌≤◌, ◌++◌, max}
use Rattle.std.specs.List.{flat_map, range_with_len}
use Rattle.cj_grid.specs.Buckets.{in_column, numbers_in}
use Rattle.cj_grid.proofs.entries.append_layer.Given as goal

abbrev pub invariant-loop-y : goal.invariant-loop-y
invariant-loop-y l = record {
  most : l.y ≤ max l.fn.ys.first (l.fn.ys.last + 1);
  entered : l.entries.items ≡ l.initial.entries.items ++ flat_map (λ y. in_column l.object l.x y (numbers_in l.zs)) (range_with_len l.fn.ys.first (l.y - l.fn.ys.first));
}
