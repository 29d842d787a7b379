use Rattle.std.proofs.Common.{◌≡◌, filter}
use Rattle.std.specs.List.{range_with_len}
use Rattle.cj_grid.specs.Among.{block_among}
use Rattle.cj_grid.specs.Buckets.{is_wide_one}
use Rattle.cj_grid.proofs.entries.wide_objects.Given as goal

abbrev pub invariant-loop-object : goal.invariant-loop-object
invariant-loop-object l = l.wide.items ≡ filter (λ k. is_wide_one (block_among l.objects k)) (range_with_len 0 l.object)
