use Rattle.std.proofs.Common.{rules}
use Rattle.std.proofs.lemmas.Fn.{always_returns_same}
use Rattle.cj_case.proofs.PairOrderLemmas.{sorted}
use Rattle.cj_threads.proofs.sorting.put_in_order.Goals as goal

pub returns-clause-ordered : goal.returns-clause-ordered
returns-clause-ordered g c =
    sorted g.T.Placed.place_of c.sort_by_key.new.self.items
    (c.in_ok-sort_by_key.ensures.sorted g.T.Placed.place_of (always_returns_same _ _ _ (λ a r q k. search rules)))
