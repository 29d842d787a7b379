-- The sizes of objects.
use Rattle.std.specs.Prelude.{ℕ, List, map, find, Option, unwrap_or}
use Rattle.std.specs.Option.{option_map}
use Rattle.std.specs.Str.{bytes_eq}
use Rattle.cj_sizes.specs.declared.size_line.SizeLine.{SizeLine}

-- the radius, in nm, of each object with this id
pub record Size : Type 0 where
  pub id : List ℕ
  pub radius : ℕ

abbrev pub size_of : SizeLine → Size
size_of line = record { id = line.id; radius = line.radius }

abbrev pub sizes_of : List SizeLine → List Size
sizes_of lines = map size_of lines

abbrev pub ids_of : List Size → List (List ℕ)
ids_of sizes = map (λ size. size.id) sizes

-- the radius that is given for an id
abbrev pub radius_given : List Size → List ℕ → Option ℕ
radius_given sizes id = option_map (λ size. size.radius) (find (λ size. bytes_eq size.id id) sizes)

-- the radius of an object: the one that is given for its id, and 0 where none is
abbrev pub radius_of : List Size → List ℕ → ℕ
radius_of sizes id = unwrap_or (radius_given sizes id) 0
