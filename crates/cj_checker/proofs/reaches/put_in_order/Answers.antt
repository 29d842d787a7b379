use Rattle.cj_checker.proofs.SweepLemmas.{sorted_in_order}
use Rattle.cj_checker.proofs.reaches.put_in_order.Goals as goal

pub returns-clause-order : goal.returns-clause-order
returns-clause-order c = sorted_in_order c.sort_unstable.new.self.items c.sort_unstable.ensures.sorted
