use Rattle.std.proofs.Common.{arith}
use Rattle.cj_case.proofs.slots.slot_window.Goals as goal

pub returns-clause-last : goal.returns-clause-last
returns-clause-last c = omega (arith, c.min-last.ensures, c.from.ensures)
