-- The front of a list that passes a test, and what stands behind it.
use Rattle.std.proofs.Common.{◌≡◌, ℕ, suc, ◌+◌, ◌-◌, List, [], ◌∷◌, ◌++◌, Bool, true, false, take, drop, length, arith, ap, sym, ◌∙◌, refl, subst, Option, Some}
use Rattle.std.specs.Prelude.{◌&&◌, ◌||◌, not}
use Rattle.std.specs.List.{prefix_len, take_while, position_or_len, before_first, after_first, list_any, list_all, last_or}
use Rattle.std.proofs.lemmas.Bool.{and_parts, cond-false, cond-true}
use Rattle.std.proofs.lemmas.List.Folds.{list_all-append}
use Rattle.std.proofs.lemmas.List.{take_all, take-append-drop}
use Rattle.std.proofs.lemmas.List.Sums.{take_while-cons}

-- what stands behind the front that passes
abbrev pub behind : {X : Type 0} → (X → Bool) → List X → List X
behind p xs = drop (prefix_len p xs) xs

pub and_false : (a : Bool) → (a && false) ≡ false
and_false true = refl
and_false false = refl

pub take_while_yes : {X : Type 0} (p : X → Bool) (x : X) (xs : List X) → p x ≡ true → take_while p (x ∷ xs) ≡ x ∷ take_while p xs
take_while_yes p x xs h = take_while-cons p x xs ∙ cond-true (p x) (x ∷ take_while p xs) [] h

pub take_while_no : {X : Type 0} (p : X → Bool) (x : X) (xs : List X) → p x ≡ false → take_while p (x ∷ xs) ≡ []
take_while_no p x xs h = take_while-cons p x xs ∙ cond-false (p x) (x ∷ take_while p xs) [] h

pub behind_yes : {X : Type 0} (p : X → Bool) (x : X) (xs : List X) → p x ≡ true → behind p (x ∷ xs) ≡ behind p xs
behind_yes p x xs h =
    let one : 1 + prefix_len p xs ≡ suc (prefix_len p xs) = omega arith in
    ap (λ (n : ℕ). drop n (x ∷ xs)) (cond-true (p x) (1 + prefix_len p xs) 0 h ∙ one)

pub behind_no : {X : Type 0} (p : X → Bool) (x : X) (xs : List X) → p x ≡ false → behind p (x ∷ xs) ≡ x ∷ xs
behind_no p x xs h = ap (λ (n : ℕ). drop n (x ∷ xs)) (cond-false (p x) (1 + prefix_len p xs) 0 h)

-- what a pattern leaves behind the first element
abbrev pub tail_of : {X : Type 0} → List X → List X
tail_of xs = take (length xs - 1) (drop 1 xs)

pub tail_of-cons : {X : Type 0} (x : X) (xs : List X) → tail_of (x ∷ xs) ≡ xs
tail_of-cons x xs = take_all (suc (length xs) - 1) xs (omega arith)

-- what stands round the first element that passes, where the head fails
pub at_no : {X : Type 0} (p : X → Bool) (x : X) (xs : List X) → p x ≡ false → position_or_len p (x ∷ xs) ≡ suc (position_or_len p xs)
at_no p x xs h = cond-true (not (p x)) (1 + position_or_len p xs) 0 (ap not h) ∙ omega arith

pub before_no : {X : Type 0} (p : X → Bool) (x : X) (xs : List X) → p x ≡ false → before_first p (x ∷ xs) ≡ x ∷ before_first p xs
before_no p x xs h = ap (λ (n : ℕ). take n (x ∷ xs)) (at_no p x xs h)

pub after_no : {X : Type 0} (p : X → Bool) (x : X) (xs : List X) → p x ≡ false → after_first p (x ∷ xs) ≡ after_first p xs
after_no p x xs h =
    let n = position_or_len p xs in
    let next : suc n + 1 ≡ suc (n + 1) = omega arith in
    ap (λ (m : ℕ). drop (m + 1) (x ∷ xs)) (at_no p x xs h) ∙ ap (λ (m : ℕ). drop m (x ∷ xs)) next

pub any_no : {X : Type 0} (p : X → Bool) (x : X) (xs : List X) → p x ≡ false → list_any p (x ∷ xs) ≡ list_any p xs
any_no p x xs h = ap (λ (b : Bool). b || list_any p xs) h

-- and where it passes
pub at_yes : {X : Type 0} (p : X → Bool) (x : X) (xs : List X) → p x ≡ true → position_or_len p (x ∷ xs) ≡ 0
at_yes p x xs h = cond-false (not (p x)) (1 + position_or_len p xs) 0 (ap not h)

pub before_yes : {X : Type 0} (p : X → Bool) (x : X) (xs : List X) → p x ≡ true → before_first p (x ∷ xs) ≡ []
before_yes p x xs h = ap (λ (n : ℕ). take n (x ∷ xs)) (at_yes p x xs h)

pub after_yes : {X : Type 0} (p : X → Bool) (x : X) (xs : List X) → p x ≡ true → after_first p (x ∷ xs) ≡ xs
after_yes p x xs h = ap (λ (n : ℕ). drop (n + 1) (x ∷ xs)) (at_yes p x xs h)

pub any_yes : {X : Type 0} (p : X → Bool) (x : X) (xs : List X) → p x ≡ true → list_any p (x ∷ xs) ≡ true
any_yes p x xs h = ap (λ (b : Bool). b || list_any p xs) h

-- elements that pass q, in front, none of which passes p
pub before_skip : {X : Type 0} (p q : X → Bool) → ((x : X) → q x ≡ true → p x ≡ false) → (xs ys : List X) → list_all q xs ≡ true
    → before_first p (xs ++ ys) ≡ xs ++ before_first p ys
before_skip p q apart [] ys all = refl
before_skip p q apart (x ∷ xs) ys all =
    let parts = and_parts (q x) (list_all q xs) all in
    before_no p x (xs ++ ys) (apart x parts.0) ∙ ap (λ zs. x ∷ zs) (before_skip p q apart xs ys parts.1)

pub after_skip : {X : Type 0} (p q : X → Bool) → ((x : X) → q x ≡ true → p x ≡ false) → (xs ys : List X) → list_all q xs ≡ true
    → after_first p (xs ++ ys) ≡ after_first p ys
after_skip p q apart [] ys all = refl
after_skip p q apart (x ∷ xs) ys all =
    let parts = and_parts (q x) (list_all q xs) all in
    after_no p x (xs ++ ys) (apart x parts.0) ∙ after_skip p q apart xs ys parts.1

pub any_skip : {X : Type 0} (p q : X → Bool) → ((x : X) → q x ≡ true → p x ≡ false) → (xs ys : List X) → list_all q xs ≡ true
    → list_any p (xs ++ ys) ≡ list_any p ys
any_skip p q apart [] ys all = refl
any_skip p q apart (x ∷ xs) ys all =
    let parts = and_parts (q x) (list_all q xs) all in
    any_no p x (xs ++ ys) (apart x parts.0) ∙ any_skip p q apart xs ys parts.1

-- each element passes in both parts
pub all_append : {X : Type 0} (p : X → Bool) (xs ys : List X) → list_all p xs ≡ true → list_all p ys ≡ true → list_all p (xs ++ ys) ≡ true
all_append p xs ys first second = list_all-append p xs ys ∙ rw (first, second) refl

-- one that fails among the others
pub all_but : {X : Type 0} (q : X → Bool) (xs : List X) (y : X) (ys : List X) → q y ≡ false → list_all q (xs ++ y ∷ ys) ≡ false
all_but q [] y ys h = ap (λ (b : Bool). b && list_all q ys) h
all_but q (x ∷ xs) y ys h = ap (λ (b : Bool). q x && b) (all_but q xs y ys h) ∙ and_false (q x)

-- the front that passes, passes
all_step : {X : Type 0} (q : X → Bool) (x : X) (xs : List X) (b : Bool) → q x ≡ b → list_all q (take_while q xs) ≡ true → list_all q (take_while q (x ∷ xs)) ≡ true
all_step q x xs true h all = ap (list_all q) (take_while_yes q x xs h) ∙ ap (λ (b : Bool). b && list_all q (take_while q xs)) h ∙ all
all_step q x xs false h all = ap (list_all q) (take_while_no q x xs h)

pub all_take_while : {X : Type 0} (q : X → Bool) (xs : List X) → list_all q (take_while q xs) ≡ true
all_take_while q [] = refl
all_take_while q (x ∷ xs) = all_step q x xs (q x) refl (all_take_while q xs)

-- what stands behind it does not begin with another one
abbrev pub HeadFails : {X : Type 0} → (X → Bool) → List X → Type 0
HeadFails q [] = Unit {0}
HeadFails q (x ∷ xs) = q x ≡ false

fails_step : {X : Type 0} (q : X → Bool) (x : X) (xs : List X) (b : Bool) → q x ≡ b → HeadFails q (behind q xs) → HeadFails q (behind q (x ∷ xs))
fails_step q x xs true h fails = subst (HeadFails q) (sym (behind_yes q x xs h)) fails
fails_step q x xs false h fails = subst (HeadFails q) (sym (behind_no q x xs h)) h

pub behind_fails : {X : Type 0} (q : X → Bool) (xs : List X) → HeadFails q (behind q xs)
behind_fails q [] = tt
behind_fails q (x ∷ xs) = fails_step q x xs (q x) refl (behind_fails q xs)

pub front_behind : {X : Type 0} (q : X → Bool) (xs : List X) → xs ≡ take_while q xs ++ behind q xs
front_behind q xs = sym (take-append-drop (prefix_len q xs) xs)

-- the last element is the one that came last
pub last_push : {X : Type 0} (o : Option X) (xs : List X) (x : X) → last_or o (xs ++ x ∷ []) ≡ Some x
last_push o [] x = refl
last_push o (y ∷ xs) x = last_push (Some y) xs x
