-- The candidates of a slot, in order.
use Rattle.std.specs.Prelude.{ℕ, ◌≡◌, ◌<◌, ◌≤◌, List, map, filter, length}
use Rattle.std.specs.List.{AllPairs}
use Rattle.cj_case.specs.PlainProblems.{PlainProblem}
use Rattle.cj_case.specs.declared.pair.Pair.{Pair}
use Rattle.cj_case.specs.Pairs.{objects_of, pairs_of}
use Rattle.cj_brief.specs.Accepted.{is_candidate_in_brief}
use Rattle.cj_brief.specs.Certificates.{PlainBrief}

abbrev pub candidates_in : PlainProblem → PlainBrief → ℕ → List (ℕ × ℕ)
candidates_in case c slot = filter (λ pair. is_candidate_in_brief case c pair.0 pair.1 slot) (pairs_of (length case.tracks))

-- in order of both objects, each pair once
pub record IsPairBefore (p q : ℕ × ℕ) : Type 0 where
  pub first_object : p.0 ≤ q.0
  pub second_object : p.0 ≡ q.0 → p.1 < q.1

abbrev pub AreInOrder : List Pair → Type 0
AreInOrder pairs = AllPairs IsPairBefore (map objects_of pairs)
