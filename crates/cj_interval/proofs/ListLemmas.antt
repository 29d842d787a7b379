-- Lists: what holds of each element, of some element, and of each element with each later one, by recursion on the list.
use Rattle.std.proofs.Common.{◌≡◌, ℕ, zero, suc, ◌+◌, ◌<◌, ◌≤◌, ◌⊎◌, Bool, true, false, cond, List, [], ◌∷◌, ◌++◌, length, get_or, take, map, filter, Some, None, refl, sym, ap, ◌∙◌, subst, inl, inr, arith}
use Rattle.std.specs.Prelude.{slice_get}
use Rattle.std.specs.List.{All, AllPairs, Any, Contains, find, flat_map, list_all, range_with_len}
use Rattle.std.proofs.lemmas.Bool.{and_parts, cases_eq}
use Rattle.std.proofs.lemmas.List.{map_push}
use Rattle.std.proofs.lemmas.List.Concat.{flat_map-append}
use Rattle.std.proofs.lemmas.List.Elements.{All-nil, All-cons, All-head, All-tail, Contains-append_left, Contains-push}

abbrev pub Each : {X : Type 0} → (X → Type 0) → List X → Type 0
Each P [] = Unit {0}
Each P (x ∷ xs) = P x × Each P xs

abbrev pub Exists : {X : Type 0} → (X → Type 0) → List X → Type 0
Exists P [] = ⊥
Exists P (x ∷ xs) = P x ⊎ Exists P xs

abbrev pub Ordered : {X : Type 0} → (X → X → Type 0) → List X → Type 0
Ordered R [] = Unit {0}
Ordered R (x ∷ xs) = Each (R x) xs × Ordered R xs

pub Each-weaker : {X : Type 0} (P Q : X → Type 0) → ((x : X) → P x → Q x) → (xs : List X) → Each P xs → Each Q xs
Each-weaker P Q f [] e = tt
Each-weaker P Q f (x ∷ xs) e = (f x e.0, Each-weaker P Q f xs e.1)

pub Each-always : {X : Type 0} (P : X → Type 0) → ((x : X) → P x) → (xs : List X) → Each P xs
Each-always P f [] = tt
Each-always P f (x ∷ xs) = (f x, Each-always P f xs)

pub Each-both : {X : Type 0} (P Q : X → Type 0) (xs : List X) → Each P xs → Each Q xs → Each (λ x. P x × Q x) xs
Each-both P Q [] p q = tt
Each-both P Q (x ∷ xs) p q = ((p.0, q.0), Each-both P Q xs p.1 q.1)

pub Each-append : {X : Type 0} (P : X → Type 0) (xs ys : List X) → Each P xs → Each P ys → Each P (xs ++ ys)
Each-append P [] ys p q = q
Each-append P (x ∷ xs) ys p q = (p.0, Each-append P xs ys p.1 q)

pub Each-map : {X Y : Type 0} (P : Y → Type 0) (f : X → Y) (xs : List X) → Each (λ x. P (f x)) xs → Each P (map f xs)
Each-map P f [] p = tt
Each-map P f (x ∷ xs) p = (p.0, Each-map P f xs p.1)

pub Each-flat_map : {X Y : Type 0} (P : Y → Type 0) (f : X → List Y) (xs : List X) → Each (λ x. Each P (f x)) xs → Each P (flat_map f xs)
Each-flat_map P f [] p = tt
Each-flat_map P f (x ∷ xs) p = Each-append P (f x) (flat_map f xs) p.0 (Each-flat_map P f xs p.1)

pub each_from_append : {X : Type 0} (P : X → Type 0) (xs ys : List X) → Each P (xs ++ ys) → Each P xs × Each P ys
each_from_append P [] ys e = (tt, e)
each_from_append P (x ∷ xs) ys e = let rest = each_from_append P xs ys e.1 in ((e.0, rest.0), rest.1)

pub each_from_map : {X Y : Type 0} (P : Y → Type 0) (f : X → Y) (xs : List X) → Each P (map f xs) → Each (λ x. P (f x)) xs
each_from_map P f [] e = tt
each_from_map P f (x ∷ xs) e = (e.0, each_from_map P f xs e.1)

pub each_from_flat_map : {X Y : Type 0} (P : Y → Type 0) (f : X → List Y) (xs : List X) → Each P (flat_map f xs) → Each (λ x. Each P (f x)) xs
each_from_flat_map P f [] e = tt
each_from_flat_map P f (x ∷ xs) e = let both = each_from_append P (f x) (flat_map f xs) e in (both.0, each_from_flat_map P f xs both.1)

pub Each-exists : {X : Type 0} (P Q : X → Type 0) (xs : List X) → Each P xs → Exists Q xs → Exists (λ x. P x × Q x) xs
Each-exists P Q [] p q = q
Each-exists P Q (x ∷ xs) p (inl q) = inl (p.0, q)
Each-exists P Q (x ∷ xs) p (inr q) = inr (Each-exists P Q xs p.1 q)

pub Exists-weaker : {X : Type 0} (P Q : X → Type 0) → ((x : X) → P x → Q x) → (xs : List X) → Exists P xs → Exists Q xs
Exists-weaker P Q f [] e = e
Exists-weaker P Q f (x ∷ xs) (inl e) = inl (f x e)
Exists-weaker P Q f (x ∷ xs) (inr e) = inr (Exists-weaker P Q f xs e)

pub Exists-left : {X : Type 0} (P : X → Type 0) (xs ys : List X) → Exists P xs → Exists P (xs ++ ys)
Exists-left P [] ys e = absurd e
Exists-left P (x ∷ xs) ys (inl e) = inl e
Exists-left P (x ∷ xs) ys (inr e) = inr (Exists-left P xs ys e)

pub Exists-right : {X : Type 0} (P : X → Type 0) (xs ys : List X) → Exists P ys → Exists P (xs ++ ys)
Exists-right P [] ys e = e
Exists-right P (x ∷ xs) ys e = inr (Exists-right P xs ys e)

pub Exists-map : {X Y : Type 0} (P : Y → Type 0) (f : X → Y) (xs : List X) → Exists (λ x. P (f x)) xs → Exists P (map f xs)
Exists-map P f [] e = e
Exists-map P f (x ∷ xs) (inl e) = inl e
Exists-map P f (x ∷ xs) (inr e) = inr (Exists-map P f xs e)

pub Exists-flat_map : {X Y : Type 0} (P : Y → Type 0) (f : X → List Y) (xs : List X) → Exists (λ x. Exists P (f x)) xs → Exists P (flat_map f xs)
Exists-flat_map P f [] e = e
Exists-flat_map P f (x ∷ xs) (inl e) = Exists-left P (f x) (flat_map f xs) e
Exists-flat_map P f (x ∷ xs) (inr e) = Exists-right P (f x) (flat_map f xs) (Exists-flat_map P f xs e)

pub Ordered-append : {X : Type 0} (R : X → X → Type 0) (xs ys : List X) → Ordered R xs → Ordered R ys → Each (λ x. Each (R x) ys) xs → Ordered R (xs ++ ys)
Ordered-append R [] ys p q c = q
Ordered-append R (x ∷ xs) ys p q c = (Each-append (R x) xs ys p.0 c.0, Ordered-append R xs ys p.1 q c.1)

pub Ordered-map : {X Y : Type 0} (R : Y → Y → Type 0) (f : X → Y) (xs : List X) → Ordered (λ a b. R (f a) (f b)) xs → Ordered R (map f xs)
Ordered-map R f [] p = tt
Ordered-map R f (x ∷ xs) p = (Each-map (R (f x)) f xs p.0, Ordered-map R f xs p.1)

-- each of the first elements stands before all that later lists come to
before_all : {X Y : Type 0} (R : X → X → Type 0) (f : Y → List X) (ss : List X) (ys : List Y) → Each (λ y. Each (λ s. Each (R s) (f y)) ss) ys → Each (λ s. Each (R s) (flat_map f ys)) ss
before_all R f ss [] c = Each-always (λ s. Unit {0}) (λ s. tt) ss
before_all R f ss (y ∷ ys) c =
    Each-weaker (λ s. Each (R s) (f y) × Each (R s) (flat_map f ys)) (λ s. Each (R s) (f y ++ flat_map f ys))
    (λ s h. Each-append (R s) (f y) (flat_map f ys) h.0 h.1) ss
    (Each-both (λ s. Each (R s) (f y)) (λ s. Each (R s) (flat_map f ys)) ss c.0 (before_all R f ss ys c.1))

-- lists in order, each in order, whose elements stand before those of later lists
pub Ordered-flat_map : {X Y : Type 0} (R : X → X → Type 0) (S : Y → Y → Type 0) (Q : Y → Type 0) (f : Y → List X) →
    ((y : Y) → Q y → Ordered R (f y)) → ((y z : Y) → Q y → Q z → S y z → Each (λ s. Each (R s) (f z)) (f y)) →
    (ys : List Y) → Each Q ys → Ordered S ys → Ordered R (flat_map f ys)
Ordered-flat_map R S Q f own across [] q p = tt
Ordered-flat_map R S Q f own across (y ∷ ys) q p =
    Ordered-append R (f y) (flat_map f ys) (own y q.0) (Ordered-flat_map R S Q f own across ys q.1 p.1)
    (before_all R f (f y) ys
    (Each-weaker (λ z. Q z × S y z) (λ z. Each (λ s. Each (R s) (f z)) (f y)) (λ z h. across y z q.0 h.0 h.1) ys (Each-both Q (S y) ys q.1 p.0)))

-- ---- one element

pub each_at : {X : Type 0} (P : X → Type 0) (xs : List X) (i : ℕ) (x : X) → Each P xs → slice_get xs i ≡ Some x → P x
each_at P [] i x e is = absurd cc
each_at P (y ∷ xs) zero x e is = let same : y ≡ x = cc in subst P same e.0
each_at P (y ∷ xs) (suc i) x e is = each_at P xs i x e.1 is

pub each_member : {X : Type 0} (P : X → Type 0) (xs : List X) (x : X) → Each P xs → Exists (λ y. y ≡ x) xs → P x
each_member P [] x all e = absurd e
each_member P (y ∷ ys) x all (inl e) = subst P e all.0
each_member P (y ∷ ys) x all (inr e) = each_member P ys x all.1 e

pub Exists-at : {X : Type 0} (P : X → Type 0) (xs : List X) (i : ℕ) (d : X) → i < length xs → P (get_or xs i d) → Exists P xs
Exists-at P [] i d lt p = absurd (omega arith)
Exists-at P (x ∷ xs) zero d lt p = inl p
Exists-at P (x ∷ xs) (suc i) d lt p = inr (Exists-at P xs i d (omega arith) p)

-- ---- elements that pass a test

pub Each-filter : {X : Type 0} (P : X → Type 0) (test : X → Bool) (xs : List X) → Each P xs → Each P (filter test xs)
Each-filter P test [] e = tt
Each-filter P test (x ∷ xs) e = chosen (test x) (Each-filter P test xs e.1)
  where
    chosen : (c : Bool) → Each P (filter test xs) → Each P (cond c (x ∷ filter test xs) (filter test xs))
    chosen true rest = (e.0, rest)
    chosen false rest = rest

pub Exists-filter : {X : Type 0} (P : X → Type 0) (test : X → Bool) (xs : List X) → Exists (λ x. P x × (test x ≡ true)) xs → Exists P (filter test xs)
Exists-filter P test [] e = e
Exists-filter P test (x ∷ xs) (inl e) = subst (λ (c : Bool). Exists P (cond c (x ∷ filter test xs) (filter test xs))) (sym e.1) (inl e.0)
Exists-filter P test (x ∷ xs) (inr e) = chosen (Exists-filter P test xs e) (test x)
  where
    chosen : Exists P (filter test xs) → (c : Bool) → Exists P (cond c (x ∷ filter test xs) (filter test xs))
    chosen rest true = inr rest
    chosen rest false = rest

-- an element that passes stays
pub member_passes : {X : Type 0} (test : X → Bool) (x : X) → test x ≡ true → (xs : List X) → Exists (λ y. y ≡ x) xs → Exists (λ y. y ≡ x) (filter test xs)
member_passes test x passes xs e =
    Exists-filter (λ y. y ≡ x) test xs (Exists-weaker (λ y. y ≡ x) (λ y. (y ≡ x) × (test y ≡ true)) (λ y same. (same, ap test same ∙ passes)) xs e)

pub each_from_list_all : {X : Type 0} (test : X → Bool) (xs : List X) → list_all test xs ≡ true → Each (λ x. test x ≡ true) xs
each_from_list_all test [] h = tt
each_from_list_all test (x ∷ xs) h = let both = and_parts (test x) (list_all test xs) h in (both.0, each_from_list_all test xs both.1)

pub list_all-from_each : {X : Type 0} (test : X → Bool) (xs : List X) → Each (λ x. test x ≡ true) xs → list_all test xs ≡ true
list_all-from_each test [] e = refl
list_all-from_each test (x ∷ xs) e = let here = e.0 in let rest = list_all-from_each test xs e.1 in rw (here, rest) refl

pub none_found : {X : Type 0} (test : X → Bool) (xs : List X) → Each (λ x. test x ≡ false) xs → find test xs ≡ None
none_found test [] e = refl
none_found test (x ∷ xs) e = let here = e.0 in let rest = none_found test xs e.1 in rw (here, rest) refl

-- ---- what is made of lists in lists

pub flat_map_alike : {X Y : Type 0} (f g : X → List Y) (xs : List X) → Each (λ x. f x ≡ g x) xs → flat_map f xs ≡ flat_map g xs
flat_map_alike f g [] same = refl
flat_map_alike f g (x ∷ xs) same = let here = same.0 in let rest = flat_map_alike f g xs same.1 in λ i. here i ++ rest i

pub flat_map-flat_map : {X Y Z : Type 0} (f : Y → List Z) (g : X → List Y) (xs : List X) → flat_map f (flat_map g xs) ≡ flat_map (λ x. flat_map f (g x)) xs
flat_map-flat_map f g [] = refl
flat_map-flat_map f g (x ∷ xs) = flat_map-append f (g x) (flat_map g xs) ∙ ap (λ ys. flat_map f (g x) ++ ys) (flat_map-flat_map f g xs)

-- ---- lists in order with the same elements are one

-- each element of the first is one of the second
abbrev pub AreWithin : {X : Type 0} → List X → List X → Type 0
AreWithin {X} xs ys = (x : X) → Exists (λ y. y ≡ x) xs → Exists (λ y. y ≡ x) ys

heads_same : {X : Type 0} (R : X → X → Type 0) → ((x y : X) → R x y → R y x → ⊥) → (x y : X) (xs ys : List X) → Each (R x) xs → Each (R y) ys
    → Exists (λ z. z ≡ x) (y ∷ ys) → Exists (λ z. z ≡ y) (x ∷ xs) → x ≡ y
heads_same R one_way x y xs ys rest rest' (inl e) there' = sym e
heads_same R one_way x y xs ys rest rest' (inr there) (inl e) = e
heads_same R one_way x y xs ys rest rest' (inr there) (inr there') = absurd (one_way x y (each_member (R x) xs y rest there') (each_member (R y) ys x rest' there))

tails_within : {X : Type 0} (R : X → X → Type 0) → ((x y : X) → R x y → R y x → ⊥) → (x y : X) (xs ys : List X) → x ≡ y → Each (R x) xs → AreWithin (x ∷ xs) (y ∷ ys) → AreWithin xs ys
tails_within R one_way x y xs ys same rest within z there = later (within z (inr there))
  where
    later : Exists (λ w. w ≡ z) (y ∷ ys) → Exists (λ w. w ≡ z) ys
    later (inl e) = let itself : R x x = subst (R x) (sym (same ∙ e)) (each_member (R x) xs z rest there) in absurd (one_way x x itself itself)
    later (inr behind) = behind

pub ordered_same : {X : Type 0} (R : X → X → Type 0) → ((x y : X) → R x y → R y x → ⊥) → (xs ys : List X) → Ordered R xs → Ordered R ys → AreWithin xs ys → AreWithin ys xs → xs ≡ ys
ordered_same R one_way [] [] o o' there back = refl
ordered_same R one_way [] (y ∷ ys) o o' there back = absurd (back y (inl refl))
ordered_same R one_way (x ∷ xs) [] o o' there back = absurd (there x (inl refl))
ordered_same R one_way (x ∷ xs) (y ∷ ys) o o' there back =
    let first : x ≡ y = heads_same R one_way x y xs ys o.0 o'.0 (there x (inl refl)) (back y (inl refl)) in
    let rest : xs ≡ ys = ordered_same R one_way xs ys o.1 o'.1 (tails_within R one_way x y xs ys first o.0 there) (tails_within R one_way y x ys xs (sym first) o'.0 back) in
    λ i. first i ∷ rest i

-- ---- the same in the library's words

pub All-from_each : {X : Type 0} (P : X → Type 0) (xs : List X) → Each P xs → All P xs
All-from_each P [] e = All-nil P
All-from_each P (x ∷ xs) e = All-cons P x xs e.0 (All-from_each P xs e.1)

pub each_from_All : {X : Type 0} (P : X → Type 0) (xs : List X) → All P xs → Each P xs
each_from_All P [] a = tt
each_from_All P (x ∷ xs) a = (All-head P x xs a, each_from_All P xs (All-tail P x xs a))

pub Any-from_exists : {X : Type 0} (P : X → Type 0) (xs : List X) → Exists P xs → Any P xs
Any-from_exists P [] e = absurd e
Any-from_exists P (x ∷ xs) (inl e) = (0, x, omega arith, refl, e)
Any-from_exists P (x ∷ xs) (inr e) =
    let a : Any P xs = Any-from_exists P xs e in
    (suc a.0, a.1, omega arith, a.3, a.4)

pub AllPairs-from_ordered : {X : Type 0} (R : X → X → Type 0) (xs : List X) → Ordered R xs → AllPairs R xs
AllPairs-from_ordered R [] o i j d lt le = absurd (omega arith)
AllPairs-from_ordered R (x ∷ xs) o zero zero d lt le = absurd (omega arith)
AllPairs-from_ordered R (x ∷ xs) o zero (suc j) d lt le = All-from_each (R x) xs o.0 j d (omega arith)
AllPairs-from_ordered R (x ∷ xs) o (suc i) zero d lt le = absurd (omega arith)
AllPairs-from_ordered R (x ∷ xs) o (suc i) (suc j) d lt le = AllPairs-from_ordered R xs o.1 i j d (omega arith) (omega arith)

-- ---- numbers that follow one another

pub Each-range : (P : ℕ → Type 0) (a n : ℕ) → ((k : ℕ) → a ≤ k → k < a + n → P k) → Each P (range_with_len a n)
Each-range P a zero f = tt
Each-range P a (suc n) f = (f a (omega arith) (omega arith), Each-range P (a + 1) n (λ k low high. f k (omega arith) (omega arith)))

pub Ordered-range : (a n : ℕ) → Ordered (λ j k. j < k) (range_with_len a n)
Ordered-range a zero = tt
Ordered-range a (suc n) = (Each-range (λ k. a < k) (a + 1) n (λ k low high. omega arith), Ordered-range (a + 1) n)

pub Exists-range : (a n k : ℕ) → a ≤ k → k < a + n → Exists (λ j. j ≡ k) (range_with_len a n)
Exists-range a zero k low high = absurd (omega arith)
Exists-range a (suc n) k low high = elim (cases_eq a k) [ inl e ↦ inl e | inr ne ↦ inr (Exists-range (a + 1) n k (omega arith) (omega arith)) ]

-- ---- a list that is taken or left out

pub Each-taken : {X : Type 0} (P : X → Type 0) (c : Bool) (xs : List X) → Each P xs → Each P (cond c xs [])
Each-taken P true xs e = e
Each-taken P false xs e = tt

pub Ordered-taken : {X : Type 0} (R : X → X → Type 0) (c : Bool) (xs : List X) → Ordered R xs → Ordered R (cond c xs [])
Ordered-taken R true xs o = o
Ordered-taken R false xs o = tt

pub Exists-taken : {X : Type 0} (P : X → Type 0) (c : Bool) (xs : List X) → c ≡ true → Exists P xs → Exists P (cond c xs [])
Exists-taken P true xs is e = e
Exists-taken P false xs is e = absurd cc

pub ordered_from_AllPairs : {X : Type 0} (R : X → X → Type 0) (xs : List X) → AllPairs R xs → Ordered R xs
ordered_from_AllPairs R [] a = tt
ordered_from_AllPairs R (x ∷ xs) a =
    (each_from_All (R x) xs (λ k d lt. a 0 (suc k) d (omega arith) (omega arith)), ordered_from_AllPairs R xs (λ i j d lt le. a (suc i) (suc j) d (omega arith) (omega arith)))

pub exists_from_Any : {X : Type 0} (P : X → Type 0) (xs : List X) → Any P xs → Exists P xs
exists_from_Any P xs a = Exists-at P xs a.0 a.1 a.2 (subst P (sym a.3) a.4)

pub Contains-from_exists : {X : Type 0} (xs : List X) (x : X) → Exists (λ y. y ≡ x) xs → Contains xs x
Contains-from_exists [] x e = absurd e
Contains-from_exists (y ∷ ys) x (inl e) = (0, omega arith, e)
Contains-from_exists (y ∷ ys) x (inr e) = let there = Contains-from_exists ys x e in (suc there.0, (let lt = there.1 in omega arith), there.2)

pub exists_from_Contains : {X : Type 0} (xs : List X) (x : X) → Contains xs x → Exists (λ y. y ≡ x) xs
exists_from_Contains xs x has = Exists-at (λ y. y ≡ x) xs has.0 x has.1 has.2

-- what is made of a list has what is made of its last element, and what it had before
pub Contains-map_push : {X Y : Type 0} (f : X → Y) (xs : List X) (x : X) → Contains (map f (xs ++ x ∷ [])) (f x)
Contains-map_push {Y = Y} f xs x = subst (λ (ys : List Y). Contains ys (f x)) (sym (map_push f xs x)) (Contains-push (map f xs) (f x))

pub Contains-map_longer : {X Y : Type 0} (f : X → Y) (xs : List X) (x : X) (y : Y) → Contains (map f xs) y → Contains (map f (xs ++ x ∷ [])) y
Contains-map_longer {Y = Y} f xs x y has = subst (λ (ys : List Y). Contains ys y) (sym (map_push f xs x)) (Contains-append_left (map f xs) (f x ∷ []) y has)

pub Each-take : {X : Type 0} (P : X → Type 0) (k : ℕ) (xs : List X) → Each P xs → Each P (take k xs)
Each-take P zero xs e = tt
Each-take P (suc k) [] e = tt
Each-take P (suc k) (x ∷ xs) e = (e.0, Each-take P k xs e.1)
