use Rattle.std.proofs.Common.{◌≡◌, ◌++◌, length}
use Rattle.std.specs.Prelude.{All, IsTrue}
use Rattle.std.specs.List.{flat_map}
use Rattle.std.specs.Vec.Iter.{into_iter_items, into_iter_len}
use Rattle.cj_case.specs.PairOrder.{AreInOrderBy}
use Rattle.cj_threads.proofs.joining.put_together.Given as goal

-- the elements so far, and the lists that are left
abbrev pub invariant-loop-list : goal.invariant-loop-list
invariant-loop-list g l = record {
  elements : l.all.items ++ flat_map (λ list. list.items) (into_iter_items l.list-iterator) ≡ flat_map (λ list. list.items) (into_iter_items l.initial.list-iterator);
  left : All (λ list. AreInOrderBy g.T.Placed.place_of list.items) (into_iter_items l.list-iterator);
  ordered : IsTrue l.in_order → AreInOrderBy g.T.Placed.place_of l.all.items;
  len : into_iter_len l.list-iterator ≡ length (into_iter_items l.list-iterator);
}
