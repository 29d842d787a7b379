use Rattle.std.proofs.Common.{◌≡◌, ◌+◌, take}
use Rattle.cj_case.specs.declared.kind.Kind.TheVariants.{Far, Near, Undecided}
use Rattle.cj_case.specs.Leaves.{plain_leaves}
use Rattle.cj_slabs.specs.Counts.{count_of}
use Rattle.cj_slabs.proofs.counts.count_kinds.Given as goal

abbrev pub invariant-loop-leaf : goal.invariant-loop-leaf
invariant-loop-leaf l =
    let done = plain_leaves (take l.leaf-index l.leaves) in
    record {
      far : l.far ≡ count_of Far done;
      near : l.near ≡ count_of Near done;
      undecided : l.undecided ≡ count_of Undecided done;
      all : l.far + l.near + l.undecided ≡ l.leaf-index;
    }
