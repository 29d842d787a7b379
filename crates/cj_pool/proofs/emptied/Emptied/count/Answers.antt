use Rattle.std.proofs.Common.{arith}
use Rattle.cj_pool.proofs.emptied.Emptied.count.Goals as goal

pub returns : goal.returns
returns c =
    let told = c.total-totals.ensures in
    record {
      roots = told.given;
      splits = omega (arith, told.splits, c.requires.few_splits, c.requires.enough);
      closes = omega (arith, told.closes, c.requires.few_closes);
    }
