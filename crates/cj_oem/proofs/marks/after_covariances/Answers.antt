use Rattle.cj_oem.specs.Drafts.{covariances_of}
use Rattle.cj_oem.specs.Readers.{body_of, open_segment_of}
use Rattle.cj_oem.proofs.StageLemmas.{cov_ends}
use Rattle.cj_oem.proofs.marks.after_covariances.Goals as goal

pub returns-in_default : goal.returns-in_default
returns-in_default c =
    let closed = c.args.closed in
    cov_ends (body_of closed.body) (open_segment_of closed.open_segment) (covariances_of c.args.covariances) c.args.mark c.in_default.not-CovarianceStop
