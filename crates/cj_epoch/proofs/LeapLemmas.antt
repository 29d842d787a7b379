-- A search in ascending numbers, and the leap seconds.
use Rattle.std.proofs.Common.{◌≡◌, ℕ, zero, suc, ◌+◌, ◌<◌, ◌≤◌, inl, inr, List, [], ◌∷◌, length, get_or, true, false, Bool, arith, map, refl}
use Rattle.std.specs.Prelude.{◌&&◌, nat_lt, nat_le}
use Rattle.std.specs.List.{list_any, All, AllWithin, AllAdjacentBelow, list_all}
use Rattle.std.specs.List.Sorted.{IsNonDecreasing}
use Rattle.std.proofs.lemmas.Bool.{cases_lt}
use Rattle.std.proofs.lemmas.Bool.Decides.{nat_tests}
use Rattle.std.proofs.lemmas.List.{get_or_default}
use Rattle.std.proofs.lemmas.List.Sorted.{IsNonDecreasingBy-from_all_adjacent}
use Rattle.std.proofs.lemmas.List.Folds.{list_any_at, list_any_none}
use Rattle.cj_epoch.proofs.DigitLemmas.{and_is}
use Rattle.cj_base.specs.Calendar.{days_of_years}
use Rattle.cj_base.specs.LeapSeconds.{leap_days, leap_lies_between, tick_after}
use Rattle.jiff_core.specs.Calendar.{days_of_months}

-- a number lies above low, and not above high
abbrev pub is_within : ℕ → ℕ → ℕ → Bool
is_within low high n = nat_lt low n && nat_le n high

within_true : (low high n : ℕ) → low < n → n ≤ high → is_within low high n ≡ true
within_true low high n above below = grind (arith, nat_tests)

within_low : (low high n : ℕ) → n ≤ low → is_within low high n ≡ false
within_low low high n below = grind (arith, nat_tests)

within_high : (low high n : ℕ) → high < n → is_within low high n ≡ false
within_high low high n above = grind (arith, nat_tests)

pub found : (numbers : List ℕ) (low high i : ℕ) → i < length numbers → low < get_or numbers i 0 → get_or numbers i 0 ≤ high → list_any (is_within low high) numbers ≡ true
found numbers low high i inside above below =
    list_any_at (is_within low high) numbers i 0 inside (within_true low high (get_or numbers i 0) above below)

pub not_found : (numbers : List ℕ) (low high i : ℕ) → IsNonDecreasing numbers → AllWithin (λ (n : ℕ). n ≤ low) numbers 0 i → (i < length numbers → high < get_or numbers i 0) → list_any (is_within low high) numbers ≡ false
not_found numbers low high i ascending below above =
    let none : All (λ (n : ℕ). is_within low high n ≡ false) numbers = λ k d inside. elim (cases_lt k i) [
      | inl before ↦ within_low low high (get_or numbers k d) (below k d (omega arith) before)
      | inr behind ↦ within_high low high (get_or numbers k d) (omega (arith, above (omega arith), ascending i k d behind inside, get_or_default numbers i d 0 (omega arith)))
    ] in
    list_any_none (is_within low high) numbers none

-- a test for short tables
abbrev pub ascends : List ℕ → Bool
ascends [] = true
ascends (m ∷ ns) = nat_le m (get_or ns 0 m) && ascends ns

adjacent : (ns : List ℕ) → ascends ns ≡ true → AllAdjacentBelow (λ (m n : ℕ). m ≤ n) ns (length ns)
adjacent [] up k d inside = absurd (omega arith)
adjacent (m ∷ ns) up zero d inside =
    let first : m ≤ get_or ns 0 m = grind (arith, nat_tests, and_is (nat_le m (get_or ns 0 m)) (ascends ns) up) in
    omega (arith, first, get_or_default ns 0 d m (omega arith))
adjacent (m ∷ ns) up (suc k) d inside =
    let next : suc k + 1 ≡ suc (k + 1) = omega arith in
    rw next (adjacent ns (and_is (nat_le m (get_or ns 0 m)) (ascends ns) up).1 k d (omega arith))

pub ascends-IsNonDecreasing : (ns : List ℕ) → ascends ns ≡ true → IsNonDecreasing ns
ascends-IsNonDecreasing ns up = IsNonDecreasingBy-from_all_adjacent (λ (n : ℕ). n) ns (adjacent ns up)

-- ticks up to m do not lie between two later ones
none_between : (a b m : ℕ) (ticks : List ℕ) → m ≤ a → list_all (λ t. nat_le t m) ticks ≡ true → list_any (λ t. nat_lt a t && nat_le t b) ticks ≡ false
none_between a b m [] late all = refl
none_between a b m (t ∷ ticks) late all = grind (arith, nat_tests, none_between a b m ticks late)

-- the first tick past the last leap second is 2017-01-01T00:00:00
pub no_leap : (a b : ℕ) → 1_483_228_800_000_000 ≤ a → leap_lies_between a b ≡ false
unfolding leap_lies_between days_of_years days_of_months
no_leap a b late = none_between a b 1_483_228_800_000_000 (map tick_after leap_days) late refl
