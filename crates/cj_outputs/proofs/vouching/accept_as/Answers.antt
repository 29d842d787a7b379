use Rattle.std.proofs.Common.{refl, sym}
use Rattle.cj_outputs.proofs.vouching.accept_as.Goals as goal

pub returns-then-eq : goal.returns-then-eq
returns-then-eq c = rw (sym c.if-eq.ensures) refl
