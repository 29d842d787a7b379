-- What equal answers and tests that hold together say.
use Rattle.std.proofs.Common.{◌≡◌, Bool, true, false, refl, Some}
use Rattle.std.specs.Prelude.{◌&&◌}

pub some_is : {A : Type 0} (x y : A) → Some x ≡ Some y → x ≡ y
some_is x y h = cc

pub all_three : (a b c : Bool) → (a && b && c) ≡ true → (a ≡ true) × (b ≡ true) × (c ≡ true)
all_three true true c h = (refl, refl, h)
all_three true false c h = absurd cc
all_three false b c h = absurd cc
