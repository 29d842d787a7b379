use Rattle.std.proofs.Common.{ap, sym}
use Rattle.cj_status.specs.Errors.{shelf_status}
use Rattle.cj_status.proofs.errors.StatusFromPutError.from.Goals as goal

pub returns-in-Failed : goal.returns-in-Failed
returns-in-Failed c = ap shelf_status (sym c.in-Failed.is)
