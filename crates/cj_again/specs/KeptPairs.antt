-- Pairs that are kept and are unchanged.
use Rattle.std.specs.Prelude.{ℕ, ◌+◌, ◌-◌, List, map, filter, length}
use Rattle.std.specs.List.{range_with_len}
use Rattle.cj_case.specs.PlainProblems.{PlainProblem}
use Rattle.cj_bezier.specs.Candidates.{is_kept_unchanged}

-- those of an object with objects of higher numbers
abbrev pub row_kept_unchanged : PlainProblem → PlainProblem → ℕ → List (ℕ × ℕ)
row_kept_unchanged old new a = filter (is_kept_unchanged old new) (map (λ b. (a, b)) (range_with_len (a + 1) (length new.tracks - (a + 1))))
