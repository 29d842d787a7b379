-- Where a byte first stands in a word.
use Rattle.std.proofs.Common.{◌≡◌, ℕ, List, length, Bool, true, false, Some, None, arith}
use Rattle.std.specs.Prelude.{nat_lt}
use Rattle.std.specs.List.{position, position_or_len, before_first}
use Rattle.std.proofs.lemmas.Bool.{lt-ltb, le-ltb}
use Rattle.std.proofs.lemmas.List.{length-take}
use Rattle.cj_kvn.proofs.LineLemmas.{found, not_found}

-- the words before it are fewer, where it stands
pub stands : (p : ℕ → Bool) (xs : List ℕ) (i : ℕ) → position p xs ≡ Some i → nat_lt (length (before_first p xs)) (length xs) ≡ true
stands p xs i h =
    let here = found p xs i h in
    lt-ltb _ _ (omega (arith, length-take (position_or_len p xs) xs, here.1, here.2))

pub stands_not : (p : ℕ → Bool) (xs : List ℕ) → position p xs ≡ None → nat_lt (length (before_first p xs)) (length xs) ≡ false
stands_not p xs h = le-ltb _ _ (omega (arith, length-take (position_or_len p xs) xs, (not_found p xs h).1))
