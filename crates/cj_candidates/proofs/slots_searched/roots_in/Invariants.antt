use Rattle.std.proofs.Common.{◌≡◌, ◌++◌, length}
use Rattle.std.specs.List.{flat_map}
use Rattle.std.specs.Vec.Iter.{into_iter_items, into_iter_len}
use Rattle.cj_candidates.specs.SlotRuns.{roots_listed}
use Rattle.cj_candidates.proofs.slots_searched.roots_in.Given as goal

-- the lists so far, and the runs that are left
abbrev pub invariant-loop-run : goal.invariant-loop-run
invariant-loop-run l = record {
  whole : flat_map (λ list. list.items) l.lists.items ++ roots_listed (into_iter_items l.run-iterator) ≡ roots_listed (into_iter_items l.initial.run-iterator);
  len : into_iter_len l.run-iterator ≡ length (into_iter_items l.run-iterator);
}
