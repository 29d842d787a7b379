use Rattle.std.proofs.Common.{refl}
use Rattle.cj_outputs.proofs.wanted.Wanted.of.Goals as goal

pub returns-clause-tells : goal.returns-clause-tells
returns-clause-tells c = c.tells_of.ensures

pub returns-clause-format : goal.returns-clause-format
returns-clause-format c = refl

pub returns-clause-workers : goal.returns-clause-workers
returns-clause-workers c = refl

pub returns-clause-leaves : goal.returns-clause-leaves
returns-clause-leaves c = refl

pub returns-clause-told : goal.returns-clause-told
returns-clause-told c = c.most_told.ensures
