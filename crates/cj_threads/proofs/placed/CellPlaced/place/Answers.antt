use Rattle.std.proofs.Common.{refl}
use Rattle.cj_threads.proofs.placed.CellPlaced.place.Goals as goal

pub returns : goal.returns
returns c = refl
