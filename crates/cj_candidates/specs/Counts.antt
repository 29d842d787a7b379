-- How many candidates there are.
use Rattle.std.specs.Prelude.{ℕ, length}
use Rattle.std.specs.List.{sum_by}
use Rattle.cj_case.specs.PlainProblems.{PlainProblem}
use Rattle.cj_bezier.specs.Candidates.{candidate_pairs}
use Rattle.cj_hermite.specs.Roots.{slots_of}

-- the candidates, summed over all slots
abbrev pub candidate_count : PlainProblem → ℕ
candidate_count case = sum_by (λ slot. length (candidate_pairs case slot)) (slots_of case)
