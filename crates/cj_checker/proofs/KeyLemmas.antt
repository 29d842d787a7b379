-- Keys that were found, in order, are the keys of their rows, and their roots are the roots of these rows.
use Rattle.std.proofs.Common.{◌≡◌, ℕ, ◌+◌, ◌-◌, ◌<◌, ◌≤◌, Bool, true, false, cond, List, [], ◌∷◌, ◌++◌, map, length, refl, sym, ap, ◌∙◌, subst, inl, arith, append-nil}
use Rattle.std.specs.List.{flat_map, range_with_len}
use Rattle.std.proofs.lemmas.List.Concat.{flat_map-append}
use Rattle.cj_interval.proofs.ListLemmas.{Each, Exists, Ordered, Each-weaker, Each-map, Each-flat_map, Each-range, Each-taken, Exists-weaker, Exists-map, Exists-flat_map, Exists-range, Exists-taken, Ordered-flat_map, Ordered-range, Ordered-taken, All-from_each, each_from_All, each_from_map, ordered_from_AllPairs, Contains-from_exists, each_from_append, each_member, exists_from_Contains, flat_map-flat_map, ordered_same}
use Rattle.cj_interval.proofs.RangeLemmas.{range_cut}
use Rattle.cj_case.specs.Pairs.{pairs_of}
use Rattle.cj_case.specs.PlainProblems.{PlainProblem}
use Rattle.cj_hermite.specs.Roots.{roots_in, slots_of, roots_of}
use Rattle.cj_case.specs.Slots.{slot_count}
use Rattle.cj_case.proofs.PairLemmas.{IsPair, PairBefore, pairs_from, Each-pairs, Ordered-pairs}
use Rattle.cj_checker.specs.declared.keys.Key.{Key}
use Rattle.cj_checker.specs.Keys.{PlainKey, plain_key, pairs_in_rows, keys_of_pair, keys_in_rows, roots_of_keys, roots_in_rows, IsKeyIn, AreKeysIn, HasKey, IsKeyBefore, AreInOrder}

-- ---- lists

ordered_left : {X : Type 0} (R : X → X → Type 0) (xs ys : List X) → Ordered R (xs ++ ys) → Ordered R xs
ordered_left R [] ys o = tt
ordered_left R (x ∷ xs) ys o = ((each_from_append (R x) xs ys o.0).0, ordered_left R xs ys o.1)

ordered_right : {X : Type 0} (R : X → X → Type 0) (xs ys : List X) → Ordered R (xs ++ ys) → Ordered R ys
ordered_right R [] ys o = o
ordered_right R (x ∷ xs) ys o = ordered_right R xs ys o.1

-- ---- rows

abbrev rows_of : ℕ → ℕ → ℕ → List (ℕ × ℕ)
rows_of n first len = flat_map (pairs_from n) (range_with_len first len)

-- the rows before one, and those from it on
rows_apart : (n first mid end : ℕ) → first ≤ mid → mid ≤ end → pairs_in_rows n first end ≡ pairs_in_rows n first mid ++ pairs_in_rows n mid end
rows_apart n first mid end low high =
    let len : end - first ≡ (mid - first) + (end - mid) = omega arith in
    let at : first + (mid - first) ≡ mid = omega arith in
    ap (λ (l : ℕ). rows_of n first l) len
    ∙ ap (flat_map (pairs_from n)) (range_cut first (mid - first) (end - mid))
    ∙ flat_map-append (pairs_from n) (range_with_len first (mid - first)) (range_with_len (first + (mid - first)) (end - mid))
    ∙ ap (λ (k : ℕ). rows_of n first (mid - first) ++ rows_of n k (end - mid)) at

all_rows : (n : ℕ) → pairs_in_rows n 0 n ≡ pairs_of n
all_rows n = let len : n - 0 ≡ n = omega arith in ap (λ (l : ℕ). rows_of n 0 l) len

-- all pairs: those of rows before, of these and of those behind
rows_within : (n first end : ℕ) → first ≤ end → end ≤ n → pairs_of n ≡ pairs_in_rows n 0 first ++ (pairs_in_rows n first end ++ pairs_in_rows n end n)
rows_within n first end low high =
    sym (all_rows n) ∙ rows_apart n 0 first n (omega arith) (omega arith) ∙ ap (λ (ps : List (ℕ × ℕ)). pairs_in_rows n 0 first ++ ps) (rows_apart n first end n low high)

Each-rows : (n first end : ℕ) → first ≤ end → end ≤ n → Each (IsPair n) (pairs_in_rows n first end)
Each-rows n first end low high =
    (each_from_append (IsPair n) (pairs_in_rows n first end) (pairs_in_rows n end n)
    (each_from_append (IsPair n) (pairs_in_rows n 0 first) (pairs_in_rows n first end ++ pairs_in_rows n end n)
    (subst (Each (IsPair n)) (rows_within n first end low high) (Each-pairs n))).1).0

Ordered-rows : (n first end : ℕ) → first ≤ end → end ≤ n → Ordered PairBefore (pairs_in_rows n first end)
Ordered-rows n first end low high =
    ordered_left PairBefore (pairs_in_rows n first end) (pairs_in_rows n end n)
    (ordered_right PairBefore (pairs_in_rows n 0 first) (pairs_in_rows n first end ++ pairs_in_rows n end n)
    (subst (Ordered PairBefore) (rows_within n first end low high) (Ordered-pairs n)))

-- the first objects of the pairs of some rows are theirs
Each-first : (n first end : ℕ) → Each (λ p. (first ≤ p.0) × (p.0 < end)) (pairs_in_rows n first end)
Each-first n first end =
    Each-flat_map (λ p. (first ≤ p.0) × (p.0 < end)) (pairs_from n) (range_with_len first (end - first))
    (Each-range (λ a. Each (λ p. (first ≤ p.0) × (p.0 < end)) (pairs_from n a)) first (end - first)
    (λ a low high. Each-map (λ p. (first ≤ p.0) × (p.0 < end)) (λ (b : ℕ). let p : ℕ × ℕ = (a, b) in p) (range_with_len (a + 1) (n - (a + 1)))
    (Each-range (λ b. (first ≤ a) × (a < end)) (a + 1) (n - (a + 1)) (λ b above below. (low, omega arith)))))

Exists-rows : (n first end a b : ℕ) → first ≤ a → a < end → a < b → b < n → Exists (λ p. p ≡ (a, b)) (pairs_in_rows n first end)
Exists-rows n first end a b low high ordered exists =
    Exists-flat_map (λ p. p ≡ (a, b)) (pairs_from n) (range_with_len first (end - first))
    (Exists-weaker (λ c. c ≡ a) (λ c. Exists (λ p. p ≡ (a, b)) (pairs_from n c))
    (λ c e. rw e
    (Exists-map (λ p. p ≡ (a, b)) (λ (d : ℕ). let p : ℕ × ℕ = (a, d) in p) (range_with_len (a + 1) (n - (a + 1)))
    (Exists-weaker (λ d. d ≡ b) (λ d. ◌≡◌ {A = ℕ × ℕ} (a, d) (a, b)) (λ d e. ap (λ (x : ℕ). let p : ℕ × ℕ = (a, x) in p) e) (range_with_len (a + 1) (n - (a + 1)))
    (Exists-range (a + 1) (n - (a + 1)) b (omega arith) (omega arith)))))
    (range_with_len first (end - first)) (Exists-range first (end - first) a low (omega arith)))

-- ---- the keys of rows

abbrev key : ℕ → ℕ → ℕ → PlainKey
key a b slot = record { a = a; b = b; slot = slot }

abbrev taken : (ℕ → ℕ → ℕ → Bool) → ℕ × ℕ → ℕ → List PlainKey
taken candidate pair slot = cond (candidate pair.0 pair.1 slot) (key pair.0 pair.1 slot ∷ []) []

-- a key of one pair
abbrev IsOfPair : ℕ × ℕ → PlainKey → Type 0
IsOfPair pair k = (k.a ≡ pair.0) × (k.b ≡ pair.1)

Each-of_pair : (candidate : ℕ → ℕ → ℕ → Bool) (case : PlainProblem) (pair : ℕ × ℕ) → Each (IsOfPair pair) (keys_of_pair candidate case pair)
Each-of_pair candidate case pair =
    Each-flat_map (IsOfPair pair) (taken candidate pair) (slots_of case)
    (Each-range (λ slot. Each (IsOfPair pair) (taken candidate pair slot)) 0 (slot_count case.first case.last)
    (λ slot low high. Each-taken (IsOfPair pair) (candidate pair.0 pair.1 slot) (key pair.0 pair.1 slot ∷ []) ((refl, refl), tt)))

Ordered-pair : (candidate : ℕ → ℕ → ℕ → Bool) (case : PlainProblem) (pair : ℕ × ℕ) → Ordered IsKeyBefore (keys_of_pair candidate case pair)
Ordered-pair candidate case pair =
    Ordered-flat_map IsKeyBefore (λ j k. j < k) (λ slot. Unit {0}) (taken candidate pair)
    (λ slot _. Ordered-taken IsKeyBefore (candidate pair.0 pair.1 slot) (key pair.0 pair.1 slot ∷ []) (tt, tt))
    (λ j k _ _ lt. Each-taken (λ x. Each (IsKeyBefore x) (taken candidate pair k)) (candidate pair.0 pair.1 j) (key pair.0 pair.1 j ∷ [])
    (Each-taken (IsKeyBefore (key pair.0 pair.1 j)) (candidate pair.0 pair.1 k) (key pair.0 pair.1 k ∷ []) (record { first_object = omega arith; second_object = λ e. omega arith; later = λ e f. lt }, tt), tt))
    (slots_of case) (Each-range (λ slot. Unit {0}) 0 (slot_count case.first case.last) (λ k low high. tt)) (Ordered-range 0 (slot_count case.first case.last))

pub Ordered-keys : (candidate : ℕ → ℕ → ℕ → Bool) (case : PlainProblem) (first end : ℕ) → first ≤ end → end ≤ length case.tracks → Ordered IsKeyBefore (keys_in_rows candidate case first end)
unfolding keys_in_rows
Ordered-keys candidate case first end low high =
    Ordered-flat_map IsKeyBefore PairBefore (λ p. Unit {0}) (keys_of_pair candidate case)
    (λ pair _. Ordered-pair candidate case pair)
    (λ p q _ _ before. Each-weaker (IsOfPair p) (λ k. Each (IsKeyBefore k) (keys_of_pair candidate case q))
    (λ k is. Each-weaker (IsOfPair q) (IsKeyBefore k)
    (λ l later.
    let a : k.a ≡ p.0 = is.0 in
    let b : k.b ≡ p.1 = is.1 in
    let c : l.a ≡ q.0 = later.0 in
    let d : l.b ≡ q.1 = later.1 in
    let up = before.first_object in
    record {
      first_object = omega arith;
      second_object = λ e. let lt = before.second_object (omega arith) in omega arith;
      later = λ e f. let lt = before.second_object (omega arith) in absurd (omega arith);
    }) (keys_of_pair candidate case q) (Each-of_pair candidate case q))
    (keys_of_pair candidate case p) (Each-of_pair candidate case p))
    (pairs_in_rows (length case.tracks) first end)
    (Each-weaker (IsPair (length case.tracks)) (λ p. Unit {0}) (λ p is. tt) (pairs_in_rows (length case.tracks) first end) (Each-rows (length case.tracks) first end low high))
    (Ordered-rows (length case.tracks) first end low high)

-- each key of the rows is one
pub Each-keys : (candidate : ℕ → ℕ → ℕ → Bool) (case : PlainProblem) (first end : ℕ) → first ≤ end → end ≤ length case.tracks
    → Each (IsKeyIn candidate first end (length case.tracks) (slot_count case.first case.last)) (keys_in_rows candidate case first end)
unfolding keys_in_rows
Each-keys candidate case first end low high =
    Each-flat_map (IsKeyIn candidate first end (length case.tracks) (slot_count case.first case.last)) (keys_of_pair candidate case) (pairs_in_rows (length case.tracks) first end)
    (both (pairs_in_rows (length case.tracks) first end) (Each-rows (length case.tracks) first end low high) (Each-first (length case.tracks) first end))
  where
    taken_is : (pair : ℕ × ℕ) (slot : ℕ) (c : Bool) → IsPair (length case.tracks) pair → first ≤ pair.0 → pair.0 < end → slot < slot_count case.first case.last → candidate pair.0 pair.1 slot ≡ c
        → Each (IsKeyIn candidate first end (length case.tracks) (slot_count case.first case.last)) (cond c (key pair.0 pair.1 slot ∷ []) [])
    taken_is pair slot true is from to lt yes' = (record { ordered = is.ordered; exists = is.exists; from = from; to = to; slot = lt; candidates_at = yes' }, tt)
    taken_is pair slot false is from to lt no' = tt

    of_pair : (pair : ℕ × ℕ) → IsPair (length case.tracks) pair → (first ≤ pair.0) × (pair.0 < end)
        → Each (IsKeyIn candidate first end (length case.tracks) (slot_count case.first case.last)) (keys_of_pair candidate case pair)
    of_pair pair is row =
        Each-flat_map (IsKeyIn candidate first end (length case.tracks) (slot_count case.first case.last)) (taken candidate pair) (slots_of case)
        (Each-range (λ slot. Each (IsKeyIn candidate first end (length case.tracks) (slot_count case.first case.last)) (taken candidate pair slot)) 0 (slot_count case.first case.last)
        (λ slot low' high'. taken_is pair slot (candidate pair.0 pair.1 slot) is row.0 row.1 (omega arith) refl))

    both : (ps : List (ℕ × ℕ)) → Each (IsPair (length case.tracks)) ps → Each (λ p. (first ≤ p.0) × (p.0 < end)) ps
        → Each (λ p. Each (IsKeyIn candidate first end (length case.tracks) (slot_count case.first case.last)) (keys_of_pair candidate case p)) ps
    both [] are rows = tt
    both (p ∷ ps) are rows = (of_pair p are.0 rows.0, both ps are.1 rows.1)

-- and each one is there
pub Exists-keys : (candidate : ℕ → ℕ → ℕ → Bool) (case : PlainProblem) (first end : ℕ) (k : PlainKey) → IsKeyIn candidate first end (length case.tracks) (slot_count case.first case.last) k
    → Exists (λ x. x ≡ k) (keys_in_rows candidate case first end)
unfolding keys_in_rows
Exists-keys candidate case first end k is =
    Exists-flat_map (λ x. x ≡ k) (keys_of_pair candidate case) (pairs_in_rows (length case.tracks) first end)
    (Exists-weaker (λ p. p ≡ (k.a, k.b)) (λ p. Exists (λ x. x ≡ k) (keys_of_pair candidate case p))
    (λ p e. rw e (Exists-flat_map (λ x. x ≡ k) (taken candidate (k.a, k.b)) (slots_of case)
    (Exists-weaker (λ slot. slot ≡ k.slot) (λ slot. Exists (λ x. x ≡ k) (taken candidate (k.a, k.b) slot))
    (λ slot f. rw f (Exists-taken (λ x. x ≡ k) (candidate k.a k.b k.slot) (key k.a k.b k.slot ∷ []) is.candidates_at (inl refl)))
    (slots_of case) (Exists-range 0 (slot_count case.first case.last) k.slot (omega arith) (let lt = is.slot in omega arith)))))
    (pairs_in_rows (length case.tracks) first end)
    (Exists-rows (length case.tracks) first end k.a k.b is.from is.to is.ordered is.exists))

-- ---- lists in order with the same keys are one

not_both : (k l : PlainKey) → IsKeyBefore k l → IsKeyBefore l k → ⊥
not_both k l h j =
    let a = h.first_object in
    let b = j.first_object in
    let c = h.second_object (omega arith) in
    let d = j.second_object (omega arith) in
    let e = h.later (omega arith) (omega arith) in
    let f = j.later (omega arith) (omega arith) in
    omega arith

-- keys that were found and put in order: from found ones, with each of the rows among them
pub found_keys : (candidate : ℕ → ℕ → ℕ → Bool) (case : PlainProblem) (first end : ℕ) (found keys : List Key) → first ≤ end → end ≤ length case.tracks
    → AreKeysIn candidate first end (length case.tracks) (slot_count case.first case.last) found
    → ((a b slot : ℕ) → IsKeyIn candidate first end (length case.tracks) (slot_count case.first case.last) (key a b slot) → HasKey found a b slot)
    → AreInOrder keys → ((a b slot : ℕ) → HasKey keys a b slot → HasKey found a b slot) → ((a b slot : ℕ) → HasKey found a b slot → HasKey keys a b slot)
    → map plain_key keys ≡ keys_in_rows candidate case first end
found_keys candidate case first end found keys low high are each order from kept =
    ordered_same IsKeyBefore not_both (map plain_key keys) (keys_in_rows candidate case first end) (ordered_from_AllPairs IsKeyBefore (map plain_key keys) order) (Ordered-keys candidate case first end low high)
    (λ x there. Exists-keys candidate case first end x
    (each_member (IsKeyIn candidate first end (length case.tracks) (slot_count case.first case.last)) (map plain_key found) x
    (Each-map (IsKeyIn candidate first end (length case.tracks) (slot_count case.first case.last)) plain_key found
    (each_from_All (λ k. IsKeyIn candidate first end (length case.tracks) (slot_count case.first case.last) (plain_key k)) found are))
    (exists_from_Contains (map plain_key found) x (from x.a x.b x.slot (Contains-from_exists (map plain_key keys) x there)))))
    (λ x there. exists_from_Contains (map plain_key keys) x
    (kept x.a x.b x.slot (each x.a x.b x.slot
    (each_member (IsKeyIn candidate first end (length case.tracks) (slot_count case.first case.last)) (keys_in_rows candidate case first end) x (Each-keys candidate case first end low high) there))))

-- ---- the roots of rows

roots_taken : (case : PlainProblem) (a b slot : ℕ) (c : Bool) → roots_of_keys case (cond c (key a b slot ∷ []) []) ≡ cond c (roots_in case slot a b) []
roots_taken case a b slot true = append-nil (roots_in case slot a b)
roots_taken case a b slot false = refl

roots_of_pair : (candidate : ℕ → ℕ → ℕ → Bool) (case : PlainProblem) (pair : ℕ × ℕ)
    → roots_of_keys case (keys_of_pair candidate case pair) ≡ flat_map (λ slot. cond (candidate pair.0 pair.1 slot) (roots_in case slot pair.0 pair.1) []) (slots_of case)
roots_of_pair candidate case pair =
    flat_map-flat_map (λ (k : PlainKey). roots_in case k.slot k.a k.b) (taken candidate pair) (slots_of case)
    ∙ (λ i. flat_map (λ slot. roots_taken case pair.0 pair.1 slot (candidate pair.0 pair.1 slot) i) (slots_of case))

-- all roots are those of all rows
pub roots_are : (candidate : ℕ → ℕ → ℕ → Bool) (case : PlainProblem) → roots_of candidate case ≡ roots_in_rows candidate case 0 (length case.tracks)
unfolding roots_of roots_in_rows keys_in_rows
roots_are candidate case =
    let n = length case.tracks in
    (λ i. flat_map (λ pair. sym (roots_of_pair candidate case pair) i) (pairs_of n))
    ∙ sym (flat_map-flat_map (λ (k : PlainKey). roots_in case k.slot k.a k.b) (keys_of_pair candidate case) (pairs_of n))
    ∙ ap (λ (ps : List (ℕ × ℕ)). roots_of_keys case (flat_map (keys_of_pair candidate case) ps)) (sym (all_rows n))

-- those of some rows in front of those behind
pub roots_apart : (candidate : ℕ → ℕ → ℕ → Bool) (case : PlainProblem) (first mid : ℕ) → first ≤ mid → mid ≤ length case.tracks
    → roots_in_rows candidate case first (length case.tracks) ≡ roots_of_keys case (keys_in_rows candidate case first mid) ++ roots_in_rows candidate case mid (length case.tracks)
unfolding roots_in_rows keys_in_rows
roots_apart candidate case first mid low high =
    let n = length case.tracks in
    ap (λ (ps : List (ℕ × ℕ)). roots_of_keys case (flat_map (keys_of_pair candidate case) ps)) (rows_apart n first mid n low high)
    ∙ ap (roots_of_keys case) (flat_map-append (keys_of_pair candidate case) (pairs_in_rows n first mid) (pairs_in_rows n mid n))
    ∙ flat_map-append (λ (k : PlainKey). roots_in case k.slot k.a k.b) (flat_map (keys_of_pair candidate case) (pairs_in_rows n first mid)) (flat_map (keys_of_pair candidate case) (pairs_in_rows n mid n))

-- behind the last row there are none
pub roots_none_left : (candidate : ℕ → ℕ → ℕ → Bool) (case : PlainProblem) (first : ℕ) → length case.tracks ≤ first → roots_in_rows candidate case first (length case.tracks) ≡ []
unfolding roots_in_rows keys_in_rows
roots_none_left candidate case first past =
    let n = length case.tracks in
    let len : n - first ≡ 0 = omega arith in
    ap (λ (l : ℕ). roots_of_keys case (flat_map (keys_of_pair candidate case) (rows_of n first l))) len

-- what the keys of some rows are
pub keys_are : (candidate : ℕ → ℕ → ℕ → Bool) (case : PlainProblem) (first end : ℕ) (keys : List Key) → first ≤ end → end ≤ length case.tracks → map plain_key keys ≡ keys_in_rows candidate case first end
    → AreKeysIn candidate first end (length case.tracks) (slot_count case.first case.last) keys
keys_are candidate case first end keys low high are =
    All-from_each (λ k. IsKeyIn candidate first end (length case.tracks) (slot_count case.first case.last) (plain_key k)) keys
    (each_from_map (IsKeyIn candidate first end (length case.tracks) (slot_count case.first case.last)) plain_key keys
    (subst (Each (IsKeyIn candidate first end (length case.tracks) (slot_count case.first case.last))) (sym are) (Each-keys candidate case first end low high)))
