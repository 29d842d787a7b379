-- Pairs of objects: which there are, their order, and how their list grows object by object.
use Rattle.std.proofs.Common.{◌≡◌, ℕ, ◌+◌, ◌-◌, ◌<◌, ◌≤◌, Bool, true, false, cond, List, [], ◌∷◌, ◌++◌, map, filter, refl, sym, ap, subst, ◌∙◌, arith, append_assoc, append-nil}
use Rattle.std.specs.Prelude.{All}
use Rattle.std.specs.List.{flat_map, range_with_len}
use Rattle.std.proofs.lemmas.List.{map_push}
use Rattle.std.proofs.lemmas.List.Elements.{filter-append}
use Rattle.cj_interval.proofs.ListLemmas.{Each, Exists, Ordered, Each-weaker, Each-map, Each-flat_map, Each-range, Exists-weaker, Exists-map, Exists-flat_map, Exists-range, Ordered-map, Ordered-flat_map, Ordered-range, All-from_each, each_from_map}
use Rattle.cj_interval.proofs.RangeLemmas.{range_more, flat_map-range_more}
use Rattle.cj_case.specs.declared.pair.Pair.{Pair}
use Rattle.cj_case.specs.Pairs.{objects_of, pairs_of}

-- two of n objects, the lower number first
pub record IsPair (n : ℕ) (p : ℕ × ℕ) : Type 0 where
  pub ordered : p.0 < p.1
  pub exists : p.1 < n

-- p comes before q
pub record PairBefore (p q : ℕ × ℕ) : Type 0 where
  pub first_object : p.0 ≤ q.0
  pub second_object : p.0 ≡ q.0 → p.1 < q.1

abbrev pub pairs_from : ℕ → ℕ → List (ℕ × ℕ)
pairs_from n a = map (λ (b : ℕ). let p : ℕ × ℕ = (a, b) in p) (range_with_len (a + 1) (n - (a + 1)))

pub Each-pairs : (n : ℕ) → Each (IsPair n) (pairs_of n)
Each-pairs n = Each-flat_map (IsPair n) (pairs_from n) (range_with_len 0 n)
    (Each-range (λ a. Each (IsPair n) (pairs_from n a)) 0 n
    (λ a low high. Each-map (IsPair n) (λ (b : ℕ). (a, b)) (range_with_len (a + 1) (n - (a + 1)))
    (Each-range (λ b. IsPair n (a, b)) (a + 1) (n - (a + 1)) (λ b above below. record { ordered = omega arith; exists = omega arith }))))

pub Ordered-pairs : (n : ℕ) → Ordered PairBefore (pairs_of n)
Ordered-pairs n =
    Ordered-flat_map PairBefore (λ j k. j < k) (λ a. Unit {0}) (pairs_from n)
    (λ a _. Ordered-map PairBefore (λ (b : ℕ). (a, b)) (range_with_len (a + 1) (n - (a + 1))) (rising a (range_with_len (a + 1) (n - (a + 1))) (Ordered-range (a + 1) (n - (a + 1)))))
    (λ a c _ _ lt. Each-map (λ p. Each (PairBefore p) (pairs_from n c)) (λ (b : ℕ). (a, b)) (range_with_len (a + 1) (n - (a + 1)))
    (Each-range (λ b. Each (PairBefore (a, b)) (pairs_from n c)) (a + 1) (n - (a + 1)) (λ b above below.
    Each-map (PairBefore (a, b)) (λ (d : ℕ). (c, d)) (range_with_len (c + 1) (n - (c + 1)))
    (Each-range (λ d. PairBefore (a, b) (c, d)) (c + 1) (n - (c + 1)) (λ d above' below'. record { first_object = omega arith; second_object = λ e. absurd (omega arith) })))))
    (range_with_len 0 n) (Each-range (λ a. Unit {0}) 0 n (λ k low high. tt)) (Ordered-range 0 n)
  where
    rising : (a : ℕ) (bs : List ℕ) → Ordered (λ j k. j < k) bs → Ordered (λ b d. PairBefore (a, b) (a, d)) bs
    rising a [] o = tt
    rising a (b ∷ bs) o =
        (Each-weaker (λ d. b < d) (λ d. PairBefore (a, b) (a, d)) (λ d lt. record { first_object = omega arith; second_object = λ e. lt }) bs o.0, rising a bs o.1)

pub Exists-pairs : (n a b : ℕ) → a < b → b < n → Exists (λ p. p ≡ (a, b)) (pairs_of n)
Exists-pairs n a b ordered exists =
    Exists-flat_map (λ p. p ≡ (a, b)) (pairs_from n) (range_with_len 0 n)
    (Exists-weaker (λ c. c ≡ a) (λ c. Exists (λ p. p ≡ (a, b)) (pairs_from n c))
    (λ c e. rw e
    (Exists-map (λ p. p ≡ (a, b)) (λ (d : ℕ). let p : ℕ × ℕ = (a, d) in p) (range_with_len (a + 1) (n - (a + 1)))
    (Exists-weaker (λ d. d ≡ b) (λ d. ◌≡◌ {A = ℕ × ℕ} (a, d) (a, b)) (λ d e. ap (λ (x : ℕ). let p : ℕ × ℕ = (a, x) in p) e) (range_with_len (a + 1) (n - (a + 1)))
    (Exists-range (a + 1) (n - (a + 1)) b (omega arith) (omega arith)))))
    (range_with_len 0 n) (Exists-range 0 n a (omega arith) (omega arith)))

-- ---- object by object

-- one object more in a row
pub row_more : (a b : ℕ) (done : List (ℕ × ℕ)) → a < b →
    (done ++ map (λ (x : ℕ). let p : ℕ × ℕ = (a, x) in p) (range_with_len (a + 1) (b - (a + 1)))) ++ (let p : ℕ × ℕ = (a, b) in p ∷ []) ≡ done ++ map (λ (x : ℕ). let p : ℕ × ℕ = (a, x) in p) (range_with_len (a + 1) (b + 1 - (a + 1)))
row_more a b done lt =
    let n : b + 1 - (a + 1) ≡ b - (a + 1) + 1 = omega arith in
    let at : a + 1 + (b - (a + 1)) ≡ b = omega arith in
    append_assoc done (map (λ (x : ℕ). let p : ℕ × ℕ = (a, x) in p) (range_with_len (a + 1) (b - (a + 1)))) (let p : ℕ × ℕ = (a, b) in p ∷ [])
    ∙ ap (λ (k : ℕ). done ++ (map (λ (x : ℕ). let p : ℕ × ℕ = (a, x) in p) (range_with_len (a + 1) (b - (a + 1))) ++ (let p : ℕ × ℕ = (a, k) in p ∷ []))) (sym at)
    ∙ ap (λ (ps : List (ℕ × ℕ)). done ++ ps)
    (sym (map_push (λ (x : ℕ). let p : ℕ × ℕ = (a, x) in p) (range_with_len (a + 1) (b - (a + 1))) (a + 1 + (b - (a + 1))))
    ∙ ap (map (λ (x : ℕ). let p : ℕ × ℕ = (a, x) in p)) (sym (range_more (a + 1) (b - (a + 1)))))
    ∙ ap (λ (k : ℕ). done ++ map (λ (x : ℕ). let p : ℕ × ℕ = (a, x) in p) (range_with_len (a + 1) k)) (sym n)

-- one row more
pub rows_more : (count a : ℕ) → flat_map (pairs_from count) (range_with_len 0 a) ++ pairs_from count a ≡ flat_map (pairs_from count) (range_with_len 0 (a + 1))
rows_more count a = sym (flat_map-range_more (pairs_from count) 0 a a (omega arith))

-- each pair has existing objects
pub pairs_exist : (count : ℕ) (pairs : List Pair) → map objects_of pairs ≡ pairs_of count → All (λ pair. pair.b < count) pairs
pairs_exist count pairs same =
    All-from_each (λ pair. pair.b < count) pairs
    (each_from_map (λ (p : ℕ × ℕ). p.1 < count) objects_of pairs
    (subst (Each (λ (p : ℕ × ℕ). p.1 < count)) (sym same)
    (Each-weaker (IsPair count) (λ (p : ℕ × ℕ). p.1 < count) (λ p is. is.exists) (pairs_of count) (Each-pairs count))))

-- ---- the pairs that pass a test, object by object

-- the pairs of an object with those from the next one up to another
abbrev pub row_to : ℕ → ℕ → List (ℕ × ℕ)
row_to a b = pairs_from b a

row_filtered : (p : ℕ × ℕ → Bool) (a b : ℕ) (done : List (ℕ × ℕ)) → a < b → (done ++ filter p (row_to a b)) ++ filter p ((a, b) ∷ []) ≡ done ++ filter p (row_to a (b + 1))
row_filtered p a b done lt =
    append_assoc done (filter p (row_to a b)) (filter p ((a, b) ∷ []))
    ∙ ap (λ (ps : List (ℕ × ℕ)). done ++ ps) (sym (filter-append p (row_to a b) ((a, b) ∷ [])) ∙ ap (filter p) (row_more a b [] lt))

-- the list with a pair that passes, and without one that does not
pub pair_taken : (p : ℕ × ℕ → Bool) (a b : ℕ) (done now : List (ℕ × ℕ)) → a < b → p (a, b) ≡ true → now ≡ done ++ filter p (row_to a b) → now ++ (a, b) ∷ [] ≡ done ++ filter p (row_to a (b + 1))
pair_taken p a b done now lt passes e =
    ap (λ (ps : List (ℕ × ℕ)). ps ++ (a, b) ∷ []) e ∙ ap (λ (c : Bool). (done ++ filter p (row_to a b)) ++ cond c ((a, b) ∷ []) []) (sym passes) ∙ row_filtered p a b done lt

pub pair_left : (p : ℕ × ℕ → Bool) (a b : ℕ) (done now : List (ℕ × ℕ)) → a < b → p (a, b) ≡ false → now ≡ done ++ filter p (row_to a b) → now ≡ done ++ filter p (row_to a (b + 1))
pair_left p a b done now lt fails e =
    e ∙ sym (append-nil (done ++ filter p (row_to a b))) ∙ ap (λ (c : Bool). (done ++ filter p (row_to a b)) ++ cond c ((a, b) ∷ []) []) (sym fails) ∙ row_filtered p a b done lt

none_passes : (p : ℕ × ℕ → Bool) (a : ℕ) → ((b : ℕ) → p (a, b) ≡ false) → (bs : List ℕ) → filter p (map (λ (b : ℕ). let q : ℕ × ℕ = (a, b) in q) bs) ≡ []
none_passes p a fail [] = refl
none_passes p a fail (b ∷ bs) = rw (fail b) (none_passes p a fail bs)

-- the list with the row of an object, and without a row of which no pair passes
pub row_taken : (p : ℕ × ℕ → Bool) (n a : ℕ) (old new : List (ℕ × ℕ)) → new ≡ old ++ filter p (pairs_from n a) → old ≡ filter p (flat_map (pairs_from n) (range_with_len 0 a))
    → new ≡ filter p (flat_map (pairs_from n) (range_with_len 0 (a + 1)))
row_taken p n a old new more e =
    more ∙ ap (λ (ps : List (ℕ × ℕ)). ps ++ filter p (pairs_from n a)) e ∙ sym (filter-append p (flat_map (pairs_from n) (range_with_len 0 a)) (pairs_from n a)) ∙ ap (filter p) (rows_more n a)
