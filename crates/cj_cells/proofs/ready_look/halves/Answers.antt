use Rattle.std.proofs.Common.{refl}
use Rattle.cj_cells.proofs.ready_look.halves.Goals as goal

pub returns : goal.returns
returns c = record {
  left_pair = refl;
  left_root = refl;
  left_first = refl;
  left_last = refl;
  right_pair = refl;
  right_root = refl;
  right_first = refl;
  right_last = refl;
}
