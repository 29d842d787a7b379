-- Lists in order of where their elements belong.
use Rattle.std.proofs.Common.{◌≡◌, ℕ, suc, ◌+◌, ◌-◌, ◌<◌, ◌≤◌, ◌⊎◌, inl, inr, Bool, true, false, Some, List, [], ◌∷◌, ◌++◌, length, get_or, sym, subst, arith, is_lt, is_le, nat_cmp, slice_get}
use Rattle.std.specs.Ordering.{ordering_then}
use Rattle.std.specs.List.{All}
use Rattle.std.proofs.lemmas.Bool.{cases_lt}
use Rattle.std.proofs.lemmas.Bool.Decides.{nat_tests}
use Rattle.std.proofs.lemmas.Option.{get_or_from_slice_get}
use Rattle.cj_base.specs.declared.tick.Tick.{Tick}
use Rattle.cj_case.specs.declared.pair.Pair.{Pair}
use Rattle.cj_interval.proofs.ListLemmas.{Each, Ordered, Each-weaker, Ordered-append, AllPairs-from_ordered, ordered_from_AllPairs, each_from_All}
use Rattle.cj_case.specs.PairOrder.{IsUpTo, AreInOrderBy}

-- ---- places

-- whether p comes before q
abbrev pub before : Pair × Tick → Pair × Tick → Bool
before p q = is_lt (ordering_then (ordering_then (nat_cmp p.0.a q.0.a) (nat_cmp p.0.b q.0.b)) (nat_cmp p.1.micros q.1.micros))

-- whether p comes no later than q
abbrev pub no_later : Pair × Tick → Pair × Tick → Bool
no_later p q = is_le (ordering_then (ordering_then (nat_cmp p.0.a q.0.a) (nat_cmp p.0.b q.0.b)) (nat_cmp p.1.micros q.1.micros))

up_to : (a b t a' b' t' : ℕ) → is_lt (ordering_then (ordering_then (nat_cmp a' a) (nat_cmp b' b)) (nat_cmp t' t)) ≡ false → (a ≤ a') × (a ≡ a' → b ≤ b') × (a ≡ a' → b ≡ b' → t ≤ t')
up_to a b t a' b' t' h = (grind (arith, nat_tests), λ e. grind (arith, nat_tests), λ e f. grind (arith, nat_tests))

up_to_by : (a b t a' b' t' : ℕ) → is_le (ordering_then (ordering_then (nat_cmp a a') (nat_cmp b b')) (nat_cmp t t')) ≡ true → (a ≤ a') × (a ≡ a' → b ≤ b') × (a ≡ a' → b ≡ b' → t ≤ t')
up_to_by a b t a' b' t' h = (grind (arith, nat_tests), λ e. grind (arith, nat_tests), λ e f. grind (arith, nat_tests))

pub not_before : (p q : Pair × Tick) → before q p ≡ false → IsUpTo p q
not_before p q h =
    let u = up_to p.0.a p.0.b p.1.micros q.0.a q.0.b q.1.micros h in
    record { first_object = u.0; second_object = u.1; tick = u.2 }

no_later_is : (p q : Pair × Tick) → no_later p q ≡ true → IsUpTo p q
no_later_is p q h =
    let u = up_to_by p.0.a p.0.b p.1.micros q.0.a q.0.b q.1.micros h in
    record { first_object = u.0; second_object = u.1; tick = u.2 }

IsUpTo-same : (p : Pair × Tick) → IsUpTo p p
IsUpTo-same p = record { first_object = omega arith; second_object = λ e. omega arith; tick = λ e f. omega arith }

IsUpTo-trans : (p q r : Pair × Tick) → IsUpTo p q → IsUpTo q r → IsUpTo p r
IsUpTo-trans p q r h k = record {
  first_object = omega (arith, h.first_object, k.first_object);
  second_object = λ e.
      let ab : p.0.a ≡ q.0.a = omega (arith, h.first_object, k.first_object) in
      let bc : q.0.a ≡ r.0.a = omega (arith, h.first_object, k.first_object) in
      omega (arith, h.second_object ab, k.second_object bc);
  tick = λ e f.
      let ab : p.0.a ≡ q.0.a = omega (arith, h.first_object, k.first_object) in
      let bc : q.0.a ≡ r.0.a = omega (arith, h.first_object, k.first_object) in
      let ab' : p.0.b ≡ q.0.b = omega (arith, h.second_object ab, k.second_object bc) in
      let bc' : q.0.b ≡ r.0.b = omega (arith, h.second_object ab, k.second_object bc) in
      omega (arith, h.tick ab ab', k.tick bc bc');
}

-- ---- lists

module _ {X : Type 0} (place : X → Pair × Tick) where
  -- x belongs no later than y
  abbrev Up : X → X → Type 0
  Up x y = IsUpTo (place x) (place y)

  -- neighbours in order are all in order
  Ordered-sorted : (xs : List X) → ((k : ℕ) (d : X) → 0 ≤ k → k + 1 < length xs → before (place (get_or xs (k + 1) d)) (place (get_or xs k d)) ≡ false) → Ordered Up xs
  Ordered-sorted [] h = tt
  Ordered-sorted (x ∷ []) h = (tt, tt)
  Ordered-sorted (x ∷ y ∷ xs) h =
      let first : Up x y = not_before (place x) (place y) (h 0 x (omega arith) (omega arith)) in
      let rest = Ordered-sorted (y ∷ xs) (λ k d low lt. let n : suc (k + 1) ≡ suc k + 1 = omega arith in let step = h (suc k) d (omega arith) (omega arith) in rw (← n) at step) in
      ((first, Each-weaker (Up y) (Up x) (λ z later. IsUpTo-trans (place x) (place y) (place z) first later) xs rest.0), rest)

  pub sorted : (xs : List X) → ((k : ℕ) (d : X) → 0 ≤ k → k + 1 < length xs → before (place (get_or xs (k + 1) d)) (place (get_or xs k d)) ≡ false) → AreInOrderBy place xs
  sorted xs h = AllPairs-from_ordered Up xs (Ordered-sorted xs h)

  -- the last element of a list in order belongs no earlier than any
  up_to_last : (xs : List X) (x : X) → slice_get xs (length xs - 1) ≡ Some x → AreInOrderBy place xs → All (λ z. Up z x) xs
  up_to_last xs x is ordered k d lt = by_place (cases_lt k (length xs - 1))
    where
      last : get_or xs (length xs - 1) d ≡ x
      last = get_or_from_slice_get xs (length xs - 1) x d is

      by_place : (k < length xs - 1) ⊎ (length xs - 1 ≤ k) → Up (get_or xs k d) x
      by_place (inl less) = subst (Up (get_or xs k d)) last (ordered k (length xs - 1) d less (omega (arith, lt)))
      by_place (inr more) =
          let e : length xs - 1 ≡ k = omega (arith, lt, more) in
          subst (λ (i : ℕ). Up (get_or xs i d) x) e (subst (λ (z : X). Up z x) (sym last) (IsUpTo-same (place x)))

  -- the first element of a list in order belongs no later than any
  from_first : (ys : List X) (y : X) → slice_get ys 0 ≡ Some y → AreInOrderBy place ys → All (Up y) ys
  from_first ys y is ordered k d lt = by_place (cases_lt 0 k)
    where
      first : get_or ys 0 d ≡ y
      first = get_or_from_slice_get ys 0 y d is

      by_place : (0 < k) ⊎ (k ≤ 0) → Up y (get_or ys k d)
      by_place (inl more) = subst (λ (z : X). Up z (get_or ys k d)) first (ordered 0 k d more lt)
      by_place (inr none) =
          let e : 0 ≡ k = omega (arith, none) in
          subst (λ (i : ℕ). Up y (get_or ys i d)) e (subst (Up y) (sym first) (IsUpTo-same (place y)))

  -- two lists in order, of which the second begins no earlier than the first ends
  pub goes_on : (xs ys : List X) (x y : X) → slice_get xs (length xs - 1) ≡ Some x → slice_get ys 0 ≡ Some y → no_later (place x) (place y) ≡ true →
      AreInOrderBy place xs → AreInOrderBy place ys → AreInOrderBy place (xs ++ ys)
  goes_on xs ys x y last first border front back =
      AllPairs-from_ordered Up (xs ++ ys)
      (Ordered-append Up xs ys (ordered_from_AllPairs Up xs front) (ordered_from_AllPairs Up ys back)
      (Each-weaker (λ z. Up z x) (λ z. Each (Up z) ys)
      (λ z early. Each-weaker (Up y) (Up z)
      (λ w late. IsUpTo-trans (place z) (place y) (place w) (IsUpTo-trans (place z) (place x) (place y) early (no_later_is (place x) (place y) border)) late)
      ys (each_from_All (Up y) ys (from_first ys y first back)))
      xs (each_from_All (λ z. Up z x) xs (up_to_last xs x last front))))
