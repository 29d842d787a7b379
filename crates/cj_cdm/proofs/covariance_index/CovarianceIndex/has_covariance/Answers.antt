use Rattle.std.proofs.Common.{ap, ◌∙◌, sym}
use Rattle.std.specs.Prelude.{is_some}
use Rattle.std.specs.Borrow.{Bor}
use Rattle.cj_track.specs.declared.matrix.Matrix.{Matrix}
use Rattle.cj_track.specs.Tracks.{plain_matrix}
use Rattle.cj_cdm.proofs.MessageLemmas.{some_mapped}
use Rattle.cj_cdm.proofs.covariance_index.CovarianceIndex.has_covariance.Goals as goal

pub returns : goal.returns
returns c = c.is_some.ensures ∙ sym (some_mapped (λ (m : Bor Matrix). plain_matrix m.now) c.at.result) ∙ ap is_some c.at.ensures
