-- In a list in order of a number the elements with one number are consecutive; and leaves that are so in order.
use Rattle.std.proofs.Common.{◌≡◌, ℕ, ◌+◌, ◌-◌, ◌≤◌, Bool, true, false, cond, List, [], ◌∷◌, ◌++◌, filter, length, get_or, take, drop, leb, ltb, refl, sym, ap, subst, ◌∙◌, inl, inr, arith, append-nil}
use Rattle.std.specs.Prelude.{◌==◌, All}
use Rattle.std.specs.Cmp.{unsigned_Decides}
use Rattle.std.specs.List.Sorted.{IsNonDecreasingBy, IsPartitionPoint}
use Rattle.std.proofs.lemmas.Bool.{cases_eq, leb-false, leb-true, ltb-false, ltb-true}
use Rattle.std.proofs.lemmas.List.{get_or-drop, get_or-map, get_or-take, length-drop, length-map, length-take, take-append-drop, take_all}
use Rattle.std.proofs.lemmas.List.Elements.{All-head, All-tail, filter-append}
use Rattle.cj_case.specs.declared.leaf.Leaf.{Leaf}
use Rattle.cj_case.specs.Leaves.{PlainLeaf, plain_leaf, plain_leaves}
use Rattle.cj_again.specs.PairLeaves.{AreByPair, AreBySecond, IsPairUpTo, with_first}
use Rattle.cj_interval.proofs.ListLemmas.{Each, Ordered, AllPairs-from_ordered, ordered_from_AllPairs}

-- ---- a test that all pass or none

pub all_pass : {X : Type 0} (test : X → Bool) (xs : List X) → All (λ x. test x ≡ true) xs → filter test xs ≡ xs
all_pass test [] all = refl
all_pass test (x ∷ xs) all =
    let here = All-head (λ y. test y ≡ true) x xs all in
    rw here (ap (λ ys. x ∷ ys) (all_pass test xs (All-tail (λ y. test y ≡ true) x xs all)))

pub none_pass : {X : Type 0} (test : X → Bool) (xs : List X) → All (λ x. test x ≡ false) xs → filter test xs ≡ []
none_pass test [] all = refl
none_pass test (x ∷ xs) all =
    let here = All-head (λ y. test y ≡ false) x xs all in
    rw here (none_pass test xs (All-tail (λ y. test y ≡ false) x xs all))

pub other_number : (a b : ℕ) → (a ≡ b → ⊥) → (a == b) ≡ false
other_number a b apart = go (a == b) refl
  where
    go : (c : Bool) → (a == b) ≡ c → c ≡ false
    go true e = absurd (apart ((unsigned_Decides a b).0 e))
    go false e = refl

-- ---- the elements with one number

-- a slice up to its end
pub rest_is : {X : Type 0} (n : ℕ) (xs : List X) → take (length xs - n) (drop n xs) ≡ drop n xs
rest_is n xs = take_all (length xs - n) (drop n xs) (omega (arith, length-drop n xs))

-- those from the first that is not below it to the last that is not above it
pub sliced : {X : Type 0} (f : X → ℕ) (k : ℕ) (xs : List X) (s e : ℕ) → IsPartitionPoint (λ y. ltb (f y) k ≡ true) (λ y. ltb (f y) k ≡ false) xs s → s ≤ length xs →
    IsPartitionPoint (λ y. leb (f y) k ≡ true) (λ y. leb (f y) k ≡ false) (drop s xs) e → e ≤ length (drop s xs) → take e (drop s xs) ≡ filter (λ x. f x == k) xs
sliced {X = X} f k xs s e first some last more =
    let test : X → Bool = λ x. f x == k in
    let before : All (λ x. test x ≡ false) (take s xs) = λ i d lt.
    let low = ltb-true (f (get_or xs i d)) k (first.0 i d (omega arith) (omega (arith, lt, length-take s xs))) in
    rw (get_or-take s xs i d (omega (arith, lt, length-take s xs))) (other_number (f (get_or xs i d)) k (λ same. omega (arith, low, same))) in
    let within : All (λ x. test x ≡ true) (take e (drop s xs)) = λ i d lt.
    let high = leb-true (f (get_or (drop s xs) i d)) k (last.0 i d (omega arith) (omega (arith, lt, length-take e (drop s xs)))) in
    let low = ltb-false (f (get_or xs (s + i) d)) k (first.1 (s + i) d (omega arith) (omega (arith, lt, length-take e (drop s xs), length-drop s xs))) in
    let same : f (get_or (drop s xs) i d) ≡ f (get_or xs (s + i) d) = ap f (get_or-drop s xs i d) in
    rw (get_or-take e (drop s xs) i d (omega (arith, lt, length-take e (drop s xs)))) ((unsigned_Decides (f (get_or (drop s xs) i d)) k).1 (omega (arith, high, low, same))) in
    let behind : All (λ x. test x ≡ false) (drop e (drop s xs)) = λ i d lt.
    let above = leb-false (f (get_or (drop s xs) (e + i) d)) k (last.1 (e + i) d (omega arith) (omega (arith, lt, length-drop e (drop s xs)))) in
    rw (get_or-drop e (drop s xs) i d) (other_number (f (get_or (drop s xs) (e + i) d)) k (λ same. omega (arith, above, same))) in
    sym (
    ap (filter test) (sym (take-append-drop s xs) ∙ ap (λ ys. take s xs ++ ys) (sym (take-append-drop e (drop s xs))))
    ∙ filter-append test (take s xs) (take e (drop s xs) ++ drop e (drop s xs))
    ∙ ap (λ ys. ys ++ filter test (take e (drop s xs) ++ drop e (drop s xs))) (none_pass test (take s xs) before)
    ∙ filter-append test (take e (drop s xs)) (drop e (drop s xs))
    ∙ (λ i. all_pass test (take e (drop s xs)) within i ++ none_pass test (drop e (drop s xs)) behind i)
    ∙ append-nil (take e (drop s xs))
    )

-- the same of a slice from the first on
pub sliced_rest : {X : Type 0} (f : X → ℕ) (k : ℕ) (xs ys : List X) (s e : ℕ) → ys ≡ drop s xs → IsPartitionPoint (λ y. ltb (f y) k ≡ true) (λ y. ltb (f y) k ≡ false) xs s → s ≤ length xs →
    IsPartitionPoint (λ y. leb (f y) k ≡ true) (λ y. leb (f y) k ≡ false) ys e → e ≤ length ys → take e ys ≡ filter (λ x. f x == k) xs
sliced_rest f k xs ys s e same first some last more =
    ap (take e) same
    ∙ sliced f k xs s e first some (subst (λ zs. IsPartitionPoint (λ y. leb (f y) k ≡ true) (λ y. leb (f y) k ≡ false) zs e) same last) (let n = ap length same in omega (arith, n, more))

-- ---- of leaves

filter_mapped : (test : PlainLeaf → Bool) (leaves : List Leaf) → filter test (plain_leaves leaves) ≡ plain_leaves (filter (λ leaf. test (plain_leaf leaf)) leaves)
filter_mapped test [] = refl
filter_mapped test (leaf ∷ leaves) = go (test (plain_leaf leaf)) (filter_mapped test leaves)
  where
    go : (c : Bool) → filter test (plain_leaves leaves) ≡ plain_leaves (filter (λ l. test (plain_leaf l)) leaves)
        → cond c (plain_leaf leaf ∷ filter test (plain_leaves leaves)) (filter test (plain_leaves leaves))
        ≡ plain_leaves (cond c (leaf ∷ filter (λ l. test (plain_leaf l)) leaves) (filter (λ l. test (plain_leaf l)) leaves))
    go true rest = ap (λ ss. plain_leaf leaf ∷ ss) rest
    go false rest = rest

pub first_sliced : (leaves part : List Leaf) (object : ℕ) → part ≡ filter (λ leaf. leaf.cell.pair.a == object) leaves → plain_leaves part ≡ filter (λ s. s.a == object) (plain_leaves leaves)
first_sliced leaves part object is = ap plain_leaves is ∙ sym (filter_mapped (λ s. s.a == object) leaves)

pub second_sliced : (leaves part : List Leaf) (object : ℕ) → part ≡ filter (λ leaf. leaf.cell.pair.b == object) leaves → plain_leaves part ≡ filter (λ s. s.b == object) (plain_leaves leaves)
second_sliced leaves part object is = ap plain_leaves is ∙ sym (filter_mapped (λ s. s.b == object) leaves)

-- leaves in order of their pairs are so of their first objects
pub firsts_rise : (leaves : List Leaf) → AreByPair (plain_leaves leaves) → IsNonDecreasingBy (λ leaf. leaf.cell.pair.a) leaves
firsts_rise leaves ordered i j d le lt = elim (cases_eq i j) [
  | inl same ↦ rw same (omega arith)
  | inr other ↦
      let is = (ordered i j (plain_leaf d) (omega arith) (omega (arith, length-map leaves plain_leaf, lt))).first_object in
      let one = ap (λ (s : PlainLeaf). s.a) (get_or-map plain_leaf leaves i d (plain_leaf d) (omega arith)) in
      let two = ap (λ (s : PlainLeaf). s.a) (get_or-map plain_leaf leaves j d (plain_leaf d) lt) in
      omega (arith, is, one, two)
]

pub seconds_rise : (leaves : List Leaf) → AreBySecond (plain_leaves leaves) → IsNonDecreasingBy (λ leaf. leaf.cell.pair.b) leaves
seconds_rise leaves ordered i j d le lt = elim (cases_eq i j) [
  | inl same ↦ rw same (omega arith)
  | inr other ↦
      let is = ordered i j (plain_leaf d) (omega arith) (omega (arith, length-map leaves plain_leaf, lt)) in
      let one = ap (λ (s : PlainLeaf). s.b) (get_or-map plain_leaf leaves i d (plain_leaf d) (omega arith)) in
      let two = ap (λ (s : PlainLeaf). s.b) (get_or-map plain_leaf leaves j d (plain_leaf d) lt) in
      omega (arith, is, one, two)
]

-- those with one first object are in order of their second ones
behind : (a : ℕ) (s : PlainLeaf) → s.a ≡ a → (ts : List PlainLeaf) → Each (IsPairUpTo s) ts → Each (λ t. s.b ≤ t.b) (with_first a ts)
behind a s here [] each = tt
behind a s here (t ∷ ts) each = go (t.a == a) refl (behind a s here ts each.1)
  where
    go : (c : Bool) → (t.a == a) ≡ c → Each (λ u. s.b ≤ u.b) (with_first a ts) → Each (λ u. s.b ≤ u.b) (cond c (t ∷ with_first a ts) (with_first a ts))
    go false e rest = rest
    go true e rest = (let up = each.0 in up.second_object (here ∙ sym ((unsigned_Decides t.a a).0 e)), rest)

row_seconds : (a : ℕ) (ss : List PlainLeaf) → Ordered IsPairUpTo ss → Ordered (λ s t. s.b ≤ t.b) (with_first a ss)
row_seconds a [] o = tt
row_seconds a (s ∷ ss) o = go (s.a == a) refl (row_seconds a ss o.1)
  where
    go : (c : Bool) → (s.a == a) ≡ c → Ordered (λ s t. s.b ≤ t.b) (with_first a ss) → Ordered (λ s t. s.b ≤ t.b) (cond c (s ∷ with_first a ss) (with_first a ss))
    go false e rest = rest
    go true e rest = (behind a s ((unsigned_Decides s.a a).0 e) ss o.0, rest)

pub row_ordered : (a : ℕ) (ss : List PlainLeaf) → AreByPair ss → AreBySecond (with_first a ss)
row_ordered a ss ordered = AllPairs-from_ordered (λ s t. s.b ≤ t.b) (with_first a ss) (row_seconds a ss (ordered_from_AllPairs IsPairUpTo ss ordered))
