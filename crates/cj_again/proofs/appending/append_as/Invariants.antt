use Rattle.std.proofs.Common.{◌≡◌, ◌≤◌, ◌++◌, map, take, vec_len}
use Rattle.cj_case.specs.Leaves.{plain_leaves}
use Rattle.cj_case.specs.Pairs.{objects_of}
use Rattle.cj_again.specs.PairLeaves.{renamed}
use Rattle.cj_again.proofs.appending.append_as.Given as goal

abbrev pub invariant-loop-leaf : goal.invariant-loop-leaf
invariant-loop-leaf l = record {
  value : plain_leaves l.leaves.items ≡ plain_leaves l.initial.leaves.items ++ map (renamed (objects_of l.pair)) (plain_leaves (take l.leaf-index l.part));
  room : vec_len l.leaves ≤ l.limit;
}
