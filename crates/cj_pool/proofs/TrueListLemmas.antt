-- The one-thread list of a case whose interpolants have lengths is true, by whatever test its candidates are found.
use Rattle.std.proofs.Common.{ℕ, ◌^◌, ◌≤◌, Bool}
use Rattle.std.specs.Prelude.{All}
use Rattle.cj_interval.proofs.ListLemmas.{Each-weaker, All-from_each}
use Rattle.cj_case.specs.PlainProblems.{PlainProblem}
use Rattle.cj_case.specs.Cells.{PlainCell}
use Rattle.cj_hermite.specs.Lengths.{HaveLengths}
use Rattle.cj_hermite.specs.Roots.{roots_of}
use Rattle.cj_hermite.proofs.CurveLemmas.{root_pieces}
use Rattle.cj_hermite.proofs.RootLemmas.{IsRootOf, Each-roots}
use Rattle.cj_bezier.specs.RootLeaves.{Describe, leaves_of_root}
use Rattle.cj_cells.proofs.LeafLemmas.{list_has, list_keeps, list_ordered, list_sound}
use Rattle.cj_pool.specs.TrueLists.{IsTrueList}
use Rattle.cj_pool.proofs.LeafSumLemmas.{described_cell}

roots_true : (case : PlainProblem) → HaveLengths case → 10 ^ 9 ≤ case.threshold → (candidate : ℕ → ℕ → ℕ → Bool) → All (λ r. Describe case r (leaves_of_root case r)) (roots_of candidate case)
roots_true case long big candidate =
    let Described = λ (r : PlainCell). Describe case r (leaves_of_root case r) in
    All-from_each Described (roots_of candidate case)
    (Each-weaker (IsRootOf case) Described (λ r is. let root = is.root in described_cell case long big r root.some (root_pieces case r is)) (roots_of candidate case) (Each-roots candidate case))

pub true_list : (case : PlainProblem) → HaveLengths case → 10 ^ 9 ≤ case.threshold → (candidate : ℕ → ℕ → ℕ → Bool) → IsTrueList candidate case
true_list case long big candidate =
    let described = roots_true case long big candidate in
    record {
      sound = list_sound candidate case described;
      complete = list_has candidate case described;
      ordered = list_ordered candidate case described;
      pieces = list_keeps candidate case described;
    }
