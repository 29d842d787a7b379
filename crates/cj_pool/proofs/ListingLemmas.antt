-- The hands that come back from threads.
use Rattle.std.proofs.Common.{◌≡◌, ℕ, suc, ◌<◌, List, [], ◌∷◌, length, get_or, refl, arith}
use Rattle.std.specs.Prelude.{All}
use Rattle.cj_pool.specs.Hands.{RefinerySeen, HandSeen, IsHandOf}
use Rattle.cj_pool.specs.Refined.{numbers_of}
use Rattle.cj_pool.specs.Turns.{Ended}

-- each hand that came back is of the same refinery as before, and has the same number
abbrev pub CameBack : RefinerySeen → List HandSeen → List HandSeen → Type 0
CameBack r hands done = (i : ℕ) (d e : HandSeen) → i < length hands → IsHandOf r (get_or done i d) × ((get_or done i d).number ≡ (get_or hands i e).number) × Ended (get_or done i d)

pub back_all : (r : RefinerySeen) (hands done : List HandSeen) → length done ≡ length hands → CameBack r hands done → All (IsHandOf r) done
back_all r hands done long back k d lt = (back k d d (omega (arith, lt, long))).0

pub back_numbers : (r : RefinerySeen) (hands done : List HandSeen) → length done ≡ length hands → CameBack r hands done → numbers_of done ≡ numbers_of hands
back_numbers r [] [] long back = refl
back_numbers r [] (y ∷ ys) long back = absurd (omega arith)
back_numbers r (x ∷ xs) [] long back = absurd (omega arith)
back_numbers r (x ∷ xs) (y ∷ ys) long back =
    let here = (back 0 y x (omega arith)).1 in
    let rest = back_numbers r xs ys (omega (arith, long)) (λ i d e lt. back (suc i) d e (omega (arith, lt))) in
    λ j. here j ∷ rest j
