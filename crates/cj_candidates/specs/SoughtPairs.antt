-- The pairs of which the candidates are sought: all, or those of a list.
use Rattle.std.specs.Prelude.{◌≡◌, ℕ, Bool, ◌&&◌, nat_eq, List, map, filter, length}
use Rattle.std.specs.List.{list_any}
use Rattle.cj_case.specs.PlainProblems.{PlainProblem}
use Rattle.cj_case.specs.Pairs.{objects_of, pairs_of}
use Rattle.cj_bezier.specs.Candidates.{is_candidate}
use Rattle.cj_candidates.specs.declared.sought_pairs.Sought.{Sought}
use Rattle.cj_candidates.specs.declared.sought_pairs.Sought.TheVariants as which

-- a pair is in a list
abbrev pub is_listed : List (ℕ × ℕ) → ℕ × ℕ → Bool
is_listed pairs pair = list_any (λ p. nat_eq p.0 pair.0 && nat_eq p.1 pair.1) pairs

-- they are pairs of n objects, in order, each once
abbrev pub ArePairsOf : ℕ → List (ℕ × ℕ) → Type 0
ArePairsOf n pairs = pairs ≡ filter (is_listed pairs) (pairs_of n)

-- those of all objects of a case, or those of the list
abbrev pub pairs_sought : PlainProblem → Sought → List (ℕ × ℕ)
pairs_sought case which.All = pairs_of (length case.tracks)
pairs_sought case (which.These pairs) = map objects_of pairs.now

-- those of them that are candidates in a slot
abbrev pub candidates_of : PlainProblem → List (ℕ × ℕ) → ℕ → List (ℕ × ℕ)
candidates_of case sought slot = filter (λ pair. is_candidate case pair.0 pair.1 slot) sought

-- a pair is wanted, and is a candidate in a slot
unfoldable pub is_wanted_candidate : (ℕ × ℕ → Bool) → PlainProblem → ℕ → ℕ → ℕ → Bool
is_wanted_candidate wanted case a b slot = wanted (a, b) && is_candidate case a b slot

-- they are pairs of all objects, in order, and all candidates of a case are among them
pub record HoldCandidates (case : PlainProblem) (sought : List (ℕ × ℕ)) : Type 0 where
  pub wanted : ℕ × ℕ → Bool
  pub listed : sought ≡ filter wanted (pairs_of (length case.tracks))
  pub candidates : is_wanted_candidate wanted case ≡ is_candidate case
