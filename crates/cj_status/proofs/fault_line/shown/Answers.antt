use Rattle.std.proofs.Common.{arith, refl}
use Rattle.std.proofs.lemmas.Bool.{le-leb}
use Rattle.cj_status.proofs.fault_line.shown.Goals as goal

pub returns-then-byte-le126 : goal.returns-then-byte-le126
returns-then-byte-le126 c = rw (le-leb 32 c.args.byte (omega arith), le-leb c.args.byte 126 (omega arith)) refl
