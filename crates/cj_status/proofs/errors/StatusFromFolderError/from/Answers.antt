use Rattle.std.proofs.Common.{ap, sym}
use Rattle.cj_status.specs.Errors.{folder_status}
use Rattle.cj_status.proofs.errors.StatusFromFolderError.from.Goals as goal

pub returns-in-Failed : goal.returns-in-Failed
returns-in-Failed c = ap folder_status (sym c.in-Failed.is)
