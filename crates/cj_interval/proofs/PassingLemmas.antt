-- The greatest and the least number that passes a test.
use Rattle.std.proofs.Common.{◌≡◌, ℕ, zero, suc, ◌+◌, ◌<◌, ◌≤◌, ◌⊎◌, Bool, true, false, cond, refl, sym, ap, subst, ◌∙◌, inl, inr, arith}
use Rattle.std.proofs.lemmas.Bool.{cases_eq, cases_lt}
use Rattle.cj_interval.specs.Passing.{greatest_to, least_from}

-- where 0 passes, the greatest number that is found passes
pub greatest_passes : (n : ℕ) (test : ℕ → Bool) → test 0 ≡ true → test (greatest_to n test) ≡ true
unfolding greatest_to
greatest_passes zero test least = least
greatest_passes (suc n) test least = go (test (suc n)) refl (greatest_passes n test least)
  where
    go : (b : Bool) → test (suc n) ≡ b → test (greatest_to n test) ≡ true → test (cond b (suc n) (greatest_to n test)) ≡ true
    go true is rest = is
    go false is rest = rest

-- no greater number passes
pub greatest_most : (n r : ℕ) (test : ℕ → Bool) → r ≤ n → test r ≡ true → r ≤ greatest_to n test
unfolding greatest_to
greatest_most zero r test le passes = le
greatest_most (suc n) r test le passes = go (λ le. greatest_most n r test le passes) (test (suc n)) refl
  where
    go : (r ≤ n → r ≤ greatest_to n test) → (b : Bool) → test (suc n) ≡ b → r ≤ cond b (suc n) (greatest_to n test)
    go rest true is = le
    go rest false is = elim (cases_eq r (suc n)) [
      | inl same ↦ let here : test r ≡ false = ap test same ∙ is in absurd cc
      | inr other ↦ rest (omega arith)
    ]

-- where the last number passes, the least one that is found passes
pub least_passes : (n r : ℕ) (test : ℕ → Bool) → test (r + n) ≡ true → test (least_from n r test) ≡ true
unfolding least_from
least_passes zero r test most = let same : r + 0 ≡ r = omega arith in subst (λ (k : ℕ). test k ≡ true) same most
least_passes (suc n) r test most =
    let same : r + suc n ≡ r + 1 + n = omega arith in
    go (test r) refl (least_passes n (r + 1) test (subst (λ (k : ℕ). test k ≡ true) same most))
  where
    go : (b : Bool) → test r ≡ b → test (least_from n (r + 1) test) ≡ true → test (cond b r (least_from n (r + 1) test)) ≡ true
    go true is rest = is
    go false is rest = rest

pub greatest_is : (n lo : ℕ) (test : ℕ → Bool) → lo ≤ n → (lo ≡ 0) ⊎ (test lo ≡ true) → ((r : ℕ) → test r ≡ true → r ≤ lo) → greatest_to n test ≡ lo
unfolding greatest_to
greatest_is zero lo test le is most = omega arith
greatest_is (suc n) lo test le is most = go (λ le. greatest_is n lo test le is most) (test (suc n)) refl
  where
    go : (lo ≤ n → greatest_to n test ≡ lo) → (b : Bool) → test (suc n) ≡ b → cond b (suc n) (greatest_to n test) ≡ lo
    go rest true passes = let upper = most (suc n) passes in omega arith
    go rest false fails = rest (elim (cases_eq lo (suc n)) [
      | inl same ↦ elim is [
        | inl none ↦ omega arith
        | inr passes ↦ let no_here : test lo ≡ false = ap test same ∙ fails in absurd cc
      ]
      | inr other ↦ omega arith
    ])

pub least_is : (n r hi : ℕ) (test : ℕ → Bool) → r ≤ hi → hi ≤ r + n → test hi ≡ true → ((k : ℕ) → test k ≡ true → hi ≤ k) → least_from n r test ≡ hi
unfolding least_from
least_is zero r hi test low high is smallest = omega arith
least_is (suc n) r hi test low high is smallest = go (λ low. least_is n (r + 1) hi test low (omega arith) is smallest) (test r) refl
  where
    go : (r + 1 ≤ hi → least_from n (r + 1) test ≡ hi) → (b : Bool) → test r ≡ b → cond b r (least_from n (r + 1) test) ≡ hi
    go rest true passes = let upper = smallest r passes in omega arith
    go rest false fails = rest (elim (cases_eq r hi) [
      | inl same ↦ let no_here : test hi ≡ false = ap test (sym same) ∙ fails in absurd cc
      | inr other ↦ omega arith
    ])

-- ---- the numbers from the first on

-- the least is at most the number behind the last
pub least_upto : (n r : ℕ) (test : ℕ → Bool) → least_from n r test ≤ r + n
unfolding least_from
least_upto zero r test = omega arith
least_upto (suc n) r test = go (test r) (least_upto n (r + 1) test)
  where
    go : (b : Bool) → least_from n (r + 1) test ≤ r + 1 + n → cond b r (least_from n (r + 1) test) ≤ r + suc n
    go true le = omega arith
    go false le = omega (arith, le)

-- those before it fail
pub least_fails_before : (n r j : ℕ) (test : ℕ → Bool) → r ≤ j → j < least_from n r test → test j ≡ false
unfolding least_from
least_fails_before zero r j test low high = absurd (omega (arith, low, high))
least_fails_before (suc n) r j test low high = go (test r) refl high (λ after lt. least_fails_before n (r + 1) j test (omega (arith, after)) lt)
  where
    go : (b : Bool) → test r ≡ b → j < cond b r (least_from n (r + 1) test) → (r < j → j < least_from n (r + 1) test → test j ≡ false) → test j ≡ false
    go true e lt rest = absurd (omega (arith, low, lt))
    go false e lt rest = elim (cases_lt r j) [
      | inl after ↦ rest after lt
      | inr upto ↦ let same : r ≡ j = omega (arith, low, upto) in ap test (sym same) ∙ e
    ]

-- one that fails is left behind, and one that passes is the least
pub least_goes_on : (n r : ℕ) (test : ℕ → Bool) → test r ≡ false → least_from (suc n) r test ≡ least_from n (r + 1) test
unfolding least_from
least_goes_on n r test fails = rw fails refl

pub least_here : (n r : ℕ) (test : ℕ → Bool) → test r ≡ true → least_from (suc n) r test ≡ r
unfolding least_from
least_here n r test passes = rw passes refl
