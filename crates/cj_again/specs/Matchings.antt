-- Matchings: which objects of one case are those of another.
use Rattle.std.specs.Prelude.{◌≡◌, ℕ, ◌<◌, nat_lt, if◌then◌else◌, true, List, [], ◌∷◌, Option, Some, None, map, filter, length}
use Rattle.std.specs.List.{range_with_len}
use Rattle.cj_case.specs.PlainProblems.{PlainProblem}
use Rattle.cj_case.specs.Unchanged.{is_object}
use Rattle.cj_again.specs.declared.ends.Ends.{Ends}

abbrev pub plain_ends : Ends → ℕ × ℕ
plain_ends ends = (ends.first, ends.last)

-- the last of some numbers, where p stands in front of them
abbrev pub last_behind : ℕ → List ℕ → ℕ
last_behind p [] = p
last_behind p (q ∷ ps) = last_behind q ps

-- the first and the last of some numbers, where there are any
abbrev pub ends_of : List ℕ → Option (ℕ × ℕ)
ends_of [] = None
ends_of (p ∷ ps) = Some (p, last_behind p ps)

-- the first and the last with one more number behind them
abbrev pub with_end : Option (ℕ × ℕ) → ℕ → ℕ × ℕ
with_end None p = (p, p)
with_end (Some ends) p = (ends.0, p)

-- the first of some numbers and the last of others, where that is greater
abbrev pub pair_between : Option (ℕ × ℕ) → Option (ℕ × ℕ) → Option (ℕ × ℕ)
pair_between None y = None
pair_between (Some e) None = None
pair_between (Some e) (Some f) = if nat_lt e.0 f.1 then Some (e.0, f.1) else None

-- the objects of the old case that are object i of the new one, in order
unfoldable pub objects_like : PlainProblem → PlainProblem → ℕ → List ℕ
objects_like old new i = filter (λ p. is_object old new p i) (range_with_len 0 (length old.tracks))

-- the first and the last of them for each object of the new case
unfoldable pub all_ends : PlainProblem → PlainProblem → List (Option (ℕ × ℕ))
all_ends old new = map (λ i. ends_of (objects_like old new i)) (range_with_len 0 (length new.tracks))

-- the objects of a pair of the old case, the lower number first, are those of a pair of the new one
pub record IsPairOf (old new : PlainProblem) (before pair : ℕ × ℕ) : Type 0 where
  pub ordered : before.0 < before.1
  pub exists : before.1 < length old.tracks
  pub first : is_object old new before.0 pair.0 ≡ true
  pub second : is_object old new before.1 pair.1 ≡ true
