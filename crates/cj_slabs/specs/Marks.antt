-- The near and undecided leaves.
use Rattle.std.specs.Prelude.{◌≡◌, Bool, List, not}
use Rattle.cj_case.specs.PlainProblems.{PlainProblem}
use Rattle.cj_case.specs.declared.kind.Kind.TheVariants.{Far}
use Rattle.cj_case.specs.declared.leaf.Leaf.{Leaf}
use Rattle.cj_case.specs.Leaves.{plain_leaves, same_kind}
use Rattle.cj_case.specs.Order.{AreInOrder}
use Rattle.cj_cells.specs.Lists.{marked_leaves}

-- whether a leaf is near or undecided
abbrev pub is_marked : Leaf → Bool
is_marked leaf = not (same_kind Far leaf.kind)

-- they are those of a case, in order of pair and time
pub record AreMarked (case : PlainProblem) (leaves : List Leaf) : Type 0 where
  pub value : plain_leaves leaves ≡ marked_leaves case
  pub ordered : AreInOrder (plain_leaves leaves)
