use Rattle.cj_oem.specs.MetadataDrafts.{metadata_draft_of}
use Rattle.cj_oem.specs.Readers.{body_of}
use Rattle.cj_oem.proofs.StageLemmas.{meta_ends}
use Rattle.cj_oem.proofs.marks.after_metadata.Goals as goal

pub returns-in_default : goal.returns-in_default
returns-in_default c = meta_ends c.args.as_hermite3 (body_of c.args.body) (metadata_draft_of c.args.draft) c.args.mark c.in_default.not-MetaStop
