-- Vectors of whole numbers: their products, and their lengths.
use Rattle.std.specs.Prelude.{ℕ, ℤ, ◌+ℤ◌, ◌-ℤ◌, ◌*ℤ◌, unsigned_abs}
use Rattle.cj_interval.specs.Rounding.{floor_div}
use Rattle.cj_interval.specs.Sizes.{IsWithin}
use Rattle.cj_interval.specs.SquareRoots.{floor_root}
use Rattle.cj_rtn.specs.declared.vector.Vector.{Vector}

-- each component is at most m in size
pub record IsEachWithin (m : ℕ) (a : Vector) : Type 0 where
  pub x : IsWithin m a.x
  pub y : IsWithin m a.y
  pub z : IsWithin m a.z

-- the scalar product
unfoldable pub dot : Vector → Vector → ℤ
dot a b = a.x *ℤ b.x +ℤ a.y *ℤ b.y +ℤ a.z *ℤ b.z

-- the vector product
unfoldable pub cross : Vector → Vector → Vector
cross a b = record {
  x = a.y *ℤ b.z -ℤ a.z *ℤ b.y;
  y = a.z *ℤ b.x -ℤ a.x *ℤ b.z;
  z = a.x *ℤ b.y -ℤ a.y *ℤ b.x;
}

-- the first less the second
unfoldable pub less : Vector → Vector → Vector
less a b = record { x = a.x -ℤ b.x; y = a.y -ℤ b.y; z = a.z -ℤ b.z }

-- each component divided by d and rounded down
unfoldable pub divided : Vector → ℕ → Vector
divided a d = record { x = floor_div a.x d; y = floor_div a.y d; z = floor_div a.z d }

-- the square of the length
unfoldable pub square : Vector → ℕ
square a = unsigned_abs (dot a a)

-- the length rounded down
unfoldable pub size : Vector → ℕ
size a = floor_root (square a)

-- how far x reaches along b, rounded down
unfoldable pub along : Vector → Vector → ℤ
along x b = floor_div (dot x b) (size b)
