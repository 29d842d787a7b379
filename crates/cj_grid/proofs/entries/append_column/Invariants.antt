use Rattle.std.proofs.Common.{◌≡◌, ◌+◌, ◌-◌, ◌≤◌, ◌++◌, max, map}
use Rattle.std.specs.List.{range_with_len}
use Rattle.cj_grid.specs.Buckets.{bucket_number}
use Rattle.cj_grid.proofs.BucketLemmas.{entry}
use Rattle.cj_grid.proofs.entries.append_column.Given as goal

abbrev pub invariant-loop-z : goal.invariant-loop-z
invariant-loop-z l = record {
  most : l.z ≤ max l.fn.zs.first (l.fn.zs.last + 1);
  entered : l.entries.items ≡ l.initial.entries.items ++ map (λ z. entry (bucket_number l.x l.y z) l.object) (range_with_len l.fn.zs.first (l.z - l.fn.zs.first));
}
