use Rattle.cj_oem.specs.Readers.{body_of, open_segment_of}
use Rattle.cj_oem.proofs.StageLemmas.{data_ends}
use Rattle.cj_oem.proofs.marks.after_nodes.Goals as goal

pub returns-in_default : goal.returns-in_default
returns-in_default c =
    data_ends (body_of c.args.body) (open_segment_of c.args.open_segment) c.args.mark c.in_default.not-MetaStart c.in_default.not-CovarianceStart
