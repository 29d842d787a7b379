use Rattle.std.proofs.Common.{◌≡◌, ◌++◌, length}
use Rattle.std.specs.Vec.Iter.{into_iter_items, into_iter_len}
use Rattle.cj_slabs.specs.Slabs.{leaves_listed}
use Rattle.cj_slabs.proofs.telling.told_in_one.Given as goal

-- the leaves so far, and the slabs that are left
abbrev pub invariant-loop-slab : goal.invariant-loop-slab
invariant-loop-slab l = record {
  whole : l.told.items ++ leaves_listed (into_iter_items l.slab-iterator) ≡ leaves_listed (into_iter_items l.initial.slab-iterator);
  len : into_iter_len l.slab-iterator ≡ length (into_iter_items l.slab-iterator);
}
