-- What ends with a line feed.
use Rattle.std.proofs.Common.{◌≡◌, ℕ, List, [], ◌∷◌, ◌++◌}
use Rattle.cj_advice.specs.Hints.{IsOfLines}

pub ended : (front text : List ℕ) → text ≡ front ++ 10 ∷ [] → IsOfLines text
ended front text same = (front, same)
