use Rattle.std.proofs.Common.{ap}
use Rattle.cj_io.proofs.mem_shelf.MemShelfShelf.put.Goals as goal

pub returns-then-next_fails-clause-nothing : goal.returns-then-next_fails-clause-nothing
returns-then-next_fails-clause-nothing c = ap (λ shelf. shelf.outputs) c.self.view_is
