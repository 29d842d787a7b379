use Rattle.cj_oem.specs.Readers.{head_of}
use Rattle.cj_oem.proofs.StageLemmas.{header_ends}
use Rattle.cj_oem.proofs.marks.after_header.Goals as goal

pub returns-in_default : goal.returns-in_default
returns-in_default c = header_ends (head_of c.args.head) c.args.mark c.in_default.not-MetaStart
