use Rattle.std.proofs.Common.{◌≡◌, filter}
use Rattle.std.specs.List.{range_with_len}
use Rattle.cj_grid.specs.Among.{block_among}
use Rattle.cj_grid.specs.Sweeps.{is_narrow_one}
use Rattle.cj_grid.proofs.entries.narrow_objects.Given as goal

abbrev pub invariant-loop-object : goal.invariant-loop-object
invariant-loop-object l = l.narrow.items ≡ filter (λ k. is_narrow_one (block_among l.objects k)) (range_with_len 0 l.object)
