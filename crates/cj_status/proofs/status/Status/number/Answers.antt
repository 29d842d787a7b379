use Rattle.std.proofs.Common.{ap, sym}
use Rattle.cj_status.specs.Statuses.{number_of}
use Rattle.cj_status.proofs.status.Status.number.Goals as goal

pub returns-in-BadFile : goal.returns-in-BadFile
returns-in-BadFile c = ap number_of (sym c.in-BadFile.is)
