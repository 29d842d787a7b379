use Rattle.std.proofs.Common.{◌∙◌}
use Rattle.cj_track.proofs.matrices.Matrices.as_slice.Goals as goal

pub returns : goal.returns
returns c = c.deref.ensures.value ∙ c.self.view_is
