-- The marks that may not stand where a reader stands.
use Rattle.std.proofs.Common.{◌≡◌, Bool, Err, refl}
use Rattle.cj_kvn.specs.Lines.{Mark}
use Rattle.cj_kvn.specs.declared.lines.MarkKind.{MarkKind}
use Rattle.cj_kvn.specs.declared.lines.MarkKind.TheVariants.{MetaStart, MetaStop, CovarianceStart, CovarianceStop}
use Rattle.cj_formats.specs.declared.oem_cause.OemCause.TheVariants.{Order}
use Rattle.cj_oem.specs.CovarianceRows.{Covariances}
use Rattle.cj_oem.specs.Metadata.{MetadataDraft}
use Rattle.cj_oem.specs.Stages.{Body, Head, OpenSegment, in_after, in_cov, in_data, in_header, in_meta}

pub header_ends : (h : Head) (mark : MarkKind) → (mark ≡ MetaStart → ⊥) → in_header h (Mark mark) ≡ Err Order
header_ends h MetaStart other = absurd (other refl)
header_ends h MetaStop other = refl
header_ends h CovarianceStart other = refl
header_ends h CovarianceStop other = refl

pub meta_ends : (as_hermite3 : Bool) (b : Body) (s : MetadataDraft) (mark : MarkKind) → (mark ≡ MetaStop → ⊥) → in_meta as_hermite3 b s (Mark mark) ≡ Err Order
meta_ends as_hermite3 b s MetaStart other = refl
meta_ends as_hermite3 b s MetaStop other = absurd (other refl)
meta_ends as_hermite3 b s CovarianceStart other = refl
meta_ends as_hermite3 b s CovarianceStop other = refl

pub data_ends : (b : Body) (s : OpenSegment) (mark : MarkKind) → (mark ≡ MetaStart → ⊥) → (mark ≡ CovarianceStart → ⊥) → in_data b s (Mark mark) ≡ Err Order
data_ends b s MetaStart other others = absurd (other refl)
data_ends b s MetaStop other others = refl
data_ends b s CovarianceStart other others = absurd (others refl)
data_ends b s CovarianceStop other others = refl

pub cov_ends : (b : Body) (s : OpenSegment) (m : Covariances) (mark : MarkKind) → (mark ≡ CovarianceStop → ⊥) → in_cov b s m (Mark mark) ≡ Err Order
cov_ends b s m MetaStart other = refl
cov_ends b s m MetaStop other = refl
cov_ends b s m CovarianceStart other = refl
cov_ends b s m CovarianceStop other = absurd (other refl)

pub block_ends : (b : Body) (mark : MarkKind) → (mark ≡ MetaStart → ⊥) → in_after b (Mark mark) ≡ Err Order
block_ends b MetaStart other = absurd (other refl)
block_ends b MetaStop other = refl
block_ends b CovarianceStart other = refl
block_ends b CovarianceStop other = refl
