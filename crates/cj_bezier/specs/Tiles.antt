-- Leaves that tile ticks: they follow one another without a gap.
use Rattle.std.specs.Prelude.{◌≡◌, ℕ, ◌+◌, ◌≤◌, List, [], ◌∷◌}
use Rattle.cj_case.specs.Leaves.{PlainLeaf}

-- a leaf of the objects a and b of which P holds, from lo to hi
pub record IsLeaf (P : PlainLeaf → Type 0) (a b lo hi : ℕ) (s : PlainLeaf) : Type 0 where
  pub first_object : s.a ≡ a
  pub second_object : s.b ≡ b
  pub from : lo ≤ s.first
  pub some : s.first ≤ s.last
  pub to : s.last ≤ hi
  pub judged : P s

-- such leaves that tile the ticks from lo to hi
abbrev pub Tile : (PlainLeaf → Type 0) → ℕ → ℕ → ℕ → ℕ → List PlainLeaf → Type 0
Tile P a b lo hi [] = lo ≡ hi + 1
Tile P a b lo hi (s ∷ ss) = (s.first ≡ lo) × (IsLeaf P a b lo hi s × Tile P a b (s.last + 1) hi ss)
