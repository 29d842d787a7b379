use Rattle.std.proofs.Common.{append-nil, sym}
use Rattle.cj_outputs.proofs.coverage.push_coverage.Goals as goal

pub returns-then-tells : goal.returns-then-tells
returns-then-tells c = rw (c.if-tells.true, ← c.count_uncovered.ensures) c.push_uncovered.ensures

pub returns-else-tells : goal.returns-else-tells
returns-else-tells c = rw c.if-tells.false (sym (append-nil c.args.text.now.items))
