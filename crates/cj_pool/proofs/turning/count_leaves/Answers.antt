use Rattle.std.proofs.Common.{refl}
use Rattle.cj_pool.proofs.turning.count_leaves.Goals as goal

pub returns-then-uncounted-gt0 : goal.returns-then-uncounted-gt0
returns-then-uncounted-gt0 c = record { none = refl; ledger = c.close.ensures.ledger; count = c.close.ensures.count }
