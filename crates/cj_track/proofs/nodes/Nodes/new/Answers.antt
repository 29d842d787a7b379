use Rattle.std.proofs.Common.{refl}
use Rattle.cj_track.proofs.nodes.Nodes.new.Goals as goal

pub returns : goal.returns
returns c = refl
