-- How short the cells are that a hand keeps.
use Rattle.std.specs.Prelude.{◌≡◌, ℕ, zero, suc, ◌+◌, ◌^◌, ◌<◌, List, [], ◌∷◌}
use Rattle.cj_case.specs.declared.cell.Cell.{Cell}

-- from the oldest on: at place h at most 2 ^ h ticks, and nothing stands above place 0
abbrev pub Narrow : ℕ → List Cell → Type 0
Narrow h [] = Unit {0}
Narrow zero (c ∷ cs) = (c.last.micros < c.first.micros + 1) × (cs ≡ [])
Narrow (suc h) (c ∷ cs) = (c.last.micros < c.first.micros + 2 ^ suc h) × Narrow h cs
