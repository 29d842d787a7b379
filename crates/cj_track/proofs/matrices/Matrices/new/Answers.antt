use Rattle.std.proofs.Common.{refl}
use Rattle.cj_track.proofs.matrices.Matrices.new.Goals as goal

pub returns : goal.returns
returns c = refl
