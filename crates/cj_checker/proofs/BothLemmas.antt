-- Conditions in a row.
use Rattle.std.proofs.Common.{◌≡◌, Bool, true, false, ◌&&◌, refl}

-- the first of three apart, or the last
pub both_first : (x y z : Bool) → (x && (y && z)) ≡ ((x && y) && z)
both_first true y z = refl
both_first false y z = refl
