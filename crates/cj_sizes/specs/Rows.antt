-- The row of a size: an id and a radius in metres.
use Rattle.std.specs.Prelude.{ℕ, nat_le, if◌then◌else◌, List, [], ◌∷◌, Result, Ok, Err, ℤ, pos, negsuc}
use Rattle.cj_kvn.specs.Faults.{◌>>=◌}
use Rattle.cj_kvn.specs.Fields.{fields}
use Rattle.cj_kvn.specs.Numbers.{scaled_of}
use Rattle.cj_kvn.specs.declared.numbers.NumFault.{NumFault}
use Rattle.cj_kvn.specs.declared.numbers.NumFault.TheVariants.{NotNumber, TooLarge}
use Rattle.cj_formats.specs.declared.sizes_cause.SizesCause.{SizesCause}
use Rattle.cj_formats.specs.declared.sizes_cause.SizesCause.TheVariants.{Form, Number, Range}
use Rattle.cj_sizes.specs.Limits.{MAX_RADIUS}
use Rattle.cj_sizes.specs.Sizes.{Size}

-- a number of nm that may be a radius
abbrev pub radius_within : ℤ → Result ℕ SizesCause
radius_within (pos radius) = if nat_le radius MAX_RADIUS then Ok radius else Err Range
radius_within (negsuc k) = Err Range

abbrev pub radius_or : Result ℤ NumFault → Result ℕ SizesCause
radius_or (Ok number) = radius_within number
radius_or (Err TooLarge) = Err Range
radius_or (Err NotNumber) = Err Number

-- the radius in nm that a text says in metres
abbrev pub radius_said : List ℕ → Result ℕ SizesCause
radius_said text = radius_or (scaled_of 9 text)

-- the size that the two fields of a row say
abbrev pub size_of_fields : List (List ℕ) → Result Size SizesCause
size_of_fields [] = Err Form
size_of_fields (id ∷ []) = Err Form
size_of_fields (id ∷ text ∷ []) = radius_said text >>= λ radius. Ok (record { id = id; radius = radius })
size_of_fields (id ∷ text ∷ other ∷ rest) = Err Form

abbrev pub size_of_row : List ℕ → Result Size SizesCause
size_of_row text = size_of_fields (fields text)
