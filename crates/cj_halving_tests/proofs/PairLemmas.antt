-- The two hands of a refinery for two, as they are taken from the end of their list.
use Rattle.std.proofs.Common.{◌≡◌, ℕ, List, [], ◌∷◌, ◌++◌, length, get_or, ap, arith, length-append}
use Rattle.std.specs.Prelude.{All}
use Rattle.std.specs.List.{range_with_len}
use Rattle.std.proofs.lemmas.List.{length-map}
use Rattle.cj_pool.specs.Hands.{RefinerySeen, HandSeen, IsHandOf}
use Rattle.cj_pool.specs.Refined.{numbers_of}

-- the hands with the numbers 0 and 1
pub record ArePair (r : RefinerySeen) (zero one : HandSeen) : Type 0 where
  pub zero_is : IsHandOf r zero × (zero.number ≡ 0)
  pub one_is : IsHandOf r one × (one.number ≡ 1)

pub are_pair : (r : RefinerySeen) (rest : List HandSeen) (zero one : HandSeen) → All (IsHandOf r) ((rest ++ zero ∷ []) ++ one ∷ []) →
    numbers_of ((rest ++ zero ∷ []) ++ one ∷ []) ≡ range_with_len 0 2 → ArePair r zero one
are_pair r [] zero one all numbers = record {
  zero_is = (all 0 zero (omega arith), ap (λ (ns : List ℕ). get_or ns 0 0) numbers);
  one_is = (all 1 zero (omega arith), ap (λ (ns : List ℕ). get_or ns 1 0) numbers);
}
are_pair r (h ∷ rest) zero one all numbers =
    absurd (omega (
      arith,
      ap length numbers,
      length-map ((rest ++ zero ∷ []) ++ one ∷ []) (λ (x : HandSeen). x.number),
      length-append (rest ++ zero ∷ []) (one ∷ []),
      length-append rest (zero ∷ []),
    ))
