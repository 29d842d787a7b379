use Rattle.std.proofs.Common.{◌≡◌, take, filter}
use Rattle.cj_slabs.specs.Marks.{is_marked}
use Rattle.cj_slabs.proofs.marking.marked_of.Given as goal

abbrev pub invariant-loop-leaf : goal.invariant-loop-leaf
invariant-loop-leaf l = l.marks.items ≡ filter is_marked (take l.leaf-index l.slab)
