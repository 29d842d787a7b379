-- The leaves that are told of a case: those of the roots that are not far throughout.
use Rattle.std.specs.Prelude.{ℕ, Bool, List}
use Rattle.std.specs.List.{flat_map}
use Rattle.cj_case.specs.PlainProblems.{PlainProblem}
use Rattle.cj_case.specs.Leaves.{PlainLeaf}
use Rattle.cj_hermite.specs.Roots.{roots_by_slot}
use Rattle.cj_bezier.specs.Candidates.{is_candidate}
use Rattle.cj_bezier.specs.RootLeaves.{told_of_root}

-- of these candidates, in order of slot, pair and time
unfoldable pub told_by : (ℕ → ℕ → ℕ → Bool) → PlainProblem → List PlainLeaf
told_by candidate case = flat_map (told_of_root case) (roots_by_slot candidate case)

-- of those of the case
abbrev pub told_leaves : PlainProblem → List PlainLeaf
told_leaves case = told_by (is_candidate case) case
