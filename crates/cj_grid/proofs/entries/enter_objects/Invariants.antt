use Rattle.std.proofs.Common.{◌≡◌}
use Rattle.std.specs.List.{flat_map, range_with_len}
use Rattle.cj_grid.specs.Among.{block_among}
use Rattle.cj_grid.specs.Buckets.{entered_by}
use Rattle.cj_grid.proofs.entries.enter_objects.Given as goal

abbrev pub invariant-loop-object : goal.invariant-loop-object
invariant-loop-object l = l.entries.items ≡ flat_map (λ k. entered_by k (block_among l.objects k)) (range_with_len 0 l.object)
