-- The objects whose pairs are filtered: which pairs of them are kept.
use Rattle.std.specs.Prelude.{ℕ, ◌+◌, ◌-◌, Bool, List, map, filter, length}
use Rattle.std.specs.List.{range_with_len}
use Rattle.cj_case.specs.Pairs.{pairs_of}
use Rattle.cj_bezier.specs.Shells.{keeps_between}
use Rattle.cj_sieve.specs.declared.shelled_objects.ShelledObjects.{ShelledObjects}

-- a pair with a primary is kept, by the threshold between the two
abbrev pub keeps_among : ShelledObjects → ℕ × ℕ → Bool
keeps_among objects = keeps_between objects.primaries.now objects.thr objects.sizes.now objects.shells.now

-- the kept pairs of an object with those of higher numbers
abbrev pub row_among : ShelledObjects → ℕ → List (ℕ × ℕ)
row_among objects a = filter (keeps_among objects) (map (λ b. (a, b)) (range_with_len (a + 1) (length objects.shells.now - (a + 1))))

-- all kept pairs, in order
abbrev pub kept_among : ShelledObjects → List (ℕ × ℕ)
kept_among objects = filter (keeps_among objects) (pairs_of (length objects.shells.now))
