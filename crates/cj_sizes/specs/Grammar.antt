-- A file of sizes as a whole: the lines that say something are rows of an id and a radius, and no id stands twice.
use Rattle.std.specs.Prelude.{◌≡◌, ℕ, ◌≤◌, List, [], ◌∷◌, Ok, pos}
use Rattle.std.specs.List.{AllZip, IsDistinct}
use Rattle.std.specs.Str.{bytes_eq}
use Rattle.cj_kvn.specs.Fields.{fields}
use Rattle.cj_kvn.specs.Lines.{Form, Row, Numbered, telling}
use Rattle.cj_kvn.specs.Lines as kvn
use Rattle.cj_kvn.specs.Numbers.{scaled_of}
use Rattle.cj_sizes.specs.Limits.{MAX_RADIUS}
use Rattle.cj_sizes.specs.Sizes.{Size, ids_of}

-- a number of metres, to the ninth place, is this many nm, and at most a kilometre
pub record IsRadius (text : List ℕ) (radius : ℕ) : Type 0 where
  pub value : scaled_of 9 text ≡ Ok (pos radius)
  pub most : radius ≤ MAX_RADIUS

-- a line is the row of a size: its id, and its radius
pub record IsRow (line : Form) (size : Size) : Type 0 where
  pub text : List ℕ
  pub metres : List ℕ
  pub row : line ≡ Row text
  pub two : fields text ≡ size.id ∷ metres ∷ []
  pub radius : IsRadius metres size.radius

-- the bytes are a file of sizes, which says these
pub record Says (bytes : List ℕ) (sizes : List Size) : Type 0 where
  pub lines : List Numbered
  pub readable : kvn.reading bytes ≡ Ok lines
  pub rows : AllZip IsRow (telling lines) sizes
  pub once : IsDistinct bytes_eq (ids_of sizes)
