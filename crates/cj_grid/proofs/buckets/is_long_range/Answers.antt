use Rattle.std.proofs.Common.{refl}
use Rattle.cj_grid.proofs.buckets.is_long_range.Goals as goal

pub returns : goal.returns
returns c = refl
