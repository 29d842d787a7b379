-- The leaves of a pair, and those of one object with all objects of higher numbers.
use Rattle.std.specs.Prelude.{◌≡◌, ℕ, ◌+◌, ◌-◌, ◌≤◌, ◌==◌, Bool, if◌then◌else◌, List, [], filter, length, AllPairs}
use Rattle.std.specs.List.{flat_map, range_with_len}
use Rattle.cj_case.specs.Cells.{PlainCell}
use Rattle.cj_case.specs.Leaves.{PlainLeaf}
use Rattle.cj_case.specs.PlainProblems.{PlainProblem}
use Rattle.cj_hermite.specs.Roots.{roots_in, slots_of}
use Rattle.cj_bezier.specs.RootLeaves.{leaves_of_roots}

-- the roots of a pair in the slots in which it is a candidate
unfoldable pub roots_of_pair : (ℕ → ℕ → ℕ → Bool) → PlainProblem → ℕ × ℕ → List PlainCell
roots_of_pair candidate case pair = flat_map (λ slot. if candidate pair.0 pair.1 slot then roots_in case slot pair.0 pair.1 else []) (slots_of case)

-- the leaves of these roots
unfoldable pub leaves_of_pair : (ℕ → ℕ → ℕ → Bool) → PlainProblem → ℕ × ℕ → List PlainLeaf
leaves_of_pair candidate case pair = leaves_of_roots case (roots_of_pair candidate case pair)

-- the leaves of an object with those of higher numbers, up to one of them
unfoldable pub leaves_to : (ℕ → ℕ → ℕ → Bool) → PlainProblem → ℕ → ℕ → List PlainLeaf
leaves_to candidate case a b = flat_map (λ other. leaves_of_pair candidate case (a, other)) (range_with_len (a + 1) (b - (a + 1)))

-- the same with all of them
abbrev pub leaves_of_object : (ℕ → ℕ → ℕ → Bool) → PlainProblem → ℕ → List PlainLeaf
leaves_of_object candidate case a = leaves_to candidate case a (length case.tracks)

-- of a list the leaves with this first object, and with this second one
abbrev pub with_first : ℕ → List PlainLeaf → List PlainLeaf
with_first a leaves = filter (λ s. s.a == a) leaves

abbrev pub with_second : ℕ → List PlainLeaf → List PlainLeaf
with_second b leaves = filter (λ s. s.b == b) leaves

-- the leaves of a pair
abbrev pub with_pair : ℕ × ℕ → List PlainLeaf → List PlainLeaf
with_pair pair leaves = with_second pair.1 (with_first pair.0 leaves)

-- the pair of s comes no later than that of t
pub record IsPairUpTo (s t : PlainLeaf) : Type 0 where
  pub first_object : s.a ≤ t.a
  pub second_object : s.a ≡ t.a → s.b ≤ t.b

-- leaves in order of their pairs
abbrev pub AreByPair : List PlainLeaf → Type 0
AreByPair leaves = AllPairs IsPairUpTo leaves

-- in order of their second objects
abbrev pub AreBySecond : List PlainLeaf → Type 0
AreBySecond leaves = AllPairs (λ s t. s.b ≤ t.b) leaves

-- a leaf as one of a pair
abbrev pub renamed : ℕ × ℕ → PlainLeaf → PlainLeaf
renamed pair s = record { a = pair.0; b = pair.1; first = s.first; last = s.last; kind = s.kind }
