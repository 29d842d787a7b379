-- Radii by their designators.
use Rattle.std.specs.Prelude.{◌≡◌, ℕ, Bool, true, if◌then◌else◌, List, Option, Some, None}
use Rattle.std.specs.Borrow.{Bor}
use Rattle.std.specs.BTreeMap.{BTreeMap, get_by}
use Rattle.std.specs.BTreeSet.{BTreeSet, contains_by}
use Rattle.std.specs.Cmp.Lexicographic.{slice_cmp}
use Rattle.std.specs.Option.{option_or}
use Rattle.std.specs.Ordering.{nat_cmp}
use Rattle.std.specs.Str.{bytes_eq}
use Rattle.cj_sizes.specs.Sizes.{Size, radius_given}

-- the radius in a map
abbrev pub radius_in : BTreeMap (Bor (List ℕ)) ℕ → List ℕ → Option ℕ
radius_in radii id = get_by (λ key. slice_cmp nat_cmp id key.now) radii

-- whether an id is in a set
abbrev pub has_id : BTreeSet (Bor (List ℕ)) → List ℕ → Bool
has_id ids id = contains_by (λ key. slice_cmp nat_cmp id key.now) ids

-- the map has the radius that the sizes give for each id that is asked for
abbrev pub Holds : BTreeSet (Bor (List ℕ)) → List Size → BTreeMap (Bor (List ℕ)) ℕ → Type 0
Holds asked sizes radii = (id : List ℕ) → has_id asked id ≡ true → radius_in radii id ≡ radius_given sizes id

-- the map with a radius for an id, unless it has one already, as far as ids are asked for
abbrev pub Takes : BTreeSet (Bor (List ℕ)) → BTreeMap (Bor (List ℕ)) ℕ → BTreeMap (Bor (List ℕ)) ℕ → List ℕ → ℕ → Type 0
Takes asked old new named radius = (id : List ℕ) → has_id asked id ≡ true → radius_in new id ≡ option_or (radius_in old id) (if bytes_eq named id then Some radius else None)
