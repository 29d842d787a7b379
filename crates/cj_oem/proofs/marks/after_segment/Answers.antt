use Rattle.cj_oem.specs.Readers.{body_of}
use Rattle.cj_oem.proofs.StageLemmas.{block_ends}
use Rattle.cj_oem.proofs.marks.after_segment.Goals as goal

pub returns-in_default : goal.returns-in_default
returns-in_default c = block_ends (body_of c.args.body) c.args.mark c.in_default.not-MetaStart
