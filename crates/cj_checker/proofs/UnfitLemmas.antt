-- The first line that does not fit, line by line.
use Rattle.std.proofs.Common.{◌≡◌, ℕ, zero, suc, ◌+◌, ◌<◌, ◌≤◌, Bool, true, false, List, [], ◌∷◌, length, get_or, map, drop, Option, Some, None, refl, sym, ap, ◌∙◌, arith}
use Rattle.std.specs.Prelude.{if◌then◌else◌, option_map, slice_get}
use Rattle.std.specs.List.{enumerate_from}
use Rattle.std.specs.Option.{option_map_or}
use Rattle.std.proofs.lemmas.Option.{slice_get-map, slice_get_past, slice_get_read}
use Rattle.cj_formats.specs.declared.check_cause.CheckCause.{CheckCause}
use Rattle.cj_checker.specs.First.{failed, first_unfit, fits_at, Failure}

-- the list from a place on
pub dropped : {X : Type 0} (xs : List X) (k : ℕ) (x : X) → slice_get xs k ≡ Some x → drop k xs ≡ x ∷ drop (k + 1) xs
dropped [] k x is = absurd cc
dropped (y ∷ xs) zero x is = let same : y ≡ x = cc in λ j. same j ∷ xs
dropped (y ∷ xs) (suc k) x is =
    let next : suc (k + 1) ≡ suc k + 1 = omega arith in
    dropped xs k x is ∙ ap (λ (n : ℕ). x ∷ drop n (y ∷ xs)) next

pub ended : {X : Type 0} (xs : List X) (k : ℕ) → slice_get xs k ≡ None → drop k xs ≡ []
ended [] zero is = refl
ended [] (suc k) is = refl
ended (y ∷ xs) zero is = absurd cc
ended (y ∷ xs) (suc k) is = ended xs k is

unfit_here : {A B : Type 0} (fits : A → B → Bool) (cause : CheckCause) (line : ℕ) (x : A) (xs : List A) (y : B) (ys : List B) (b : Bool) → fits x y ≡ b
    → first_unfit fits cause line (x ∷ xs) (y ∷ ys) ≡ (if b then first_unfit fits cause (line + 1) xs ys else failed line cause)
unfolding first_unfit
unfit_here fits cause line x xs y ys b is = ap (λ (t : Bool). if t then first_unfit fits cause (line + 1) xs ys else failed line cause) is

unfit_front : {A B : Type 0} (fits : A → B → Bool) (cause : CheckCause) (line : ℕ) (y : B) (ys : List B) → first_unfit fits cause line [] (y ∷ ys) ≡ failed line cause
unfolding first_unfit
unfit_front fits cause line y ys = refl

unfit_left : {A B : Type 0} (fits : A → B → Bool) (cause : CheckCause) (line : ℕ) (x : A) (xs : List A) → first_unfit fits cause line (x ∷ xs) [] ≡ failed line cause
unfolding first_unfit
unfit_left fits cause line x xs = refl

unfit_none : {A B : Type 0} (fits : A → B → Bool) (cause : CheckCause) (line : ℕ) → first_unfit {A = A} {B = B} fits cause line [] [] ≡ None
unfolding first_unfit
unfit_none fits cause line = refl

-- from the places k on
abbrev pub unfit_from : {A B : Type 0} → (A → B → Bool) → CheckCause → ℕ → List A → List B → ℕ → Option Failure
unfit_from fits cause line xs ys k = first_unfit fits cause (line + k) (drop k xs) (drop k ys)

-- a line that fits
pub unfit_more : {A B : Type 0} (fits : A → B → Bool) (cause : CheckCause) (line : ℕ) (xs : List A) (ys : List B) (k : ℕ) (y : B) → slice_get ys k ≡ Some y → fits_at fits xs k y ≡ true
    → unfit_from fits cause line xs ys k ≡ unfit_from fits cause line xs ys (k + 1)
unfit_more {A = A} fits cause line xs ys k y is passes = go (slice_get xs k) refl passes
  where
    go : (o : Option A) → slice_get xs k ≡ o → option_map_or (λ x. fits x y) o false ≡ true → unfit_from fits cause line xs ys k ≡ unfit_from fits cause line xs ys (k + 1)
    go None at passes = absurd cc
    go (Some x) at passes =
        let us = dropped xs k x at in
        let vs = dropped ys k y is in
        let next : line + k + 1 ≡ line + (k + 1) = omega arith in
        (λ j. first_unfit fits cause (line + k) (us j) (vs j))
        ∙ (unfit_here fits cause (line + k) x (drop (k + 1) xs) y (drop (k + 1) ys) true passes
        ∙ ap (λ (n : ℕ). first_unfit fits cause n (drop (k + 1) xs) (drop (k + 1) ys)) next)

-- a line that does not
pub unfit_now : {A B : Type 0} (fits : A → B → Bool) (cause : CheckCause) (line : ℕ) (xs : List A) (ys : List B) (k : ℕ) (y : B) → slice_get ys k ≡ Some y → fits_at fits xs k y ≡ false
    → unfit_from fits cause line xs ys k ≡ failed (line + k) cause
unfit_now {A = A} fits cause line xs ys k y is wrong = go (slice_get xs k) refl wrong
  where
    go : (o : Option A) → slice_get xs k ≡ o → option_map_or (λ x. fits x y) o false ≡ false → unfit_from fits cause line xs ys k ≡ failed (line + k) cause
    go None at wrong =
        let us = ended xs k at in
        let vs = dropped ys k y is in
        (λ j. first_unfit fits cause (line + k) (us j) (vs j)) ∙ unfit_front fits cause (line + k) y (drop (k + 1) ys)
    go (Some x) at wrong =
        let us = dropped xs k x at in
        let vs = dropped ys k y is in
        (λ j. first_unfit fits cause (line + k) (us j) (vs j)) ∙ unfit_here fits cause (line + k) x (drop (k + 1) xs) y (drop (k + 1) ys) false wrong

-- behind the last line
unfit_missing : {A B : Type 0} (fits : A → B → Bool) (cause : CheckCause) (line : ℕ) (xs : List A) (ys : List B) (k : ℕ) (x : A) → slice_get ys k ≡ None → slice_get xs k ≡ Some x
    → unfit_from fits cause line xs ys k ≡ failed (line + k) cause
unfit_missing fits cause line xs ys k x is at =
    let us = dropped xs k x at in
    let vs = ended ys k is in
    (λ j. first_unfit fits cause (line + k) (us j) (vs j)) ∙ unfit_left fits cause (line + k) x (drop (k + 1) xs)

-- behind the last element
pub no_more : {X : Type 0} (xs : List X) (k : ℕ) → slice_get xs k ≡ None → length xs ≤ k
no_more [] k is = omega arith
no_more (x ∷ xs) zero is = absurd cc
no_more (x ∷ xs) (suc k) is = let rest = no_more xs k is in omega arith

pub unfit_short : {A B : Type 0} (fits : A → B → Bool) (cause : CheckCause) (line : ℕ) (xs : List A) (ys : List B) (k : ℕ) → slice_get ys k ≡ None → k < length xs
    → unfit_from fits cause line xs ys k ≡ failed (line + k) cause
unfit_short {A = A} fits cause line xs ys k is lt = go (slice_get xs k) refl
  where
    go : (o : Option A) → slice_get xs k ≡ o → unfit_from fits cause line xs ys k ≡ failed (line + k) cause
    go None at = let end = no_more xs k at in absurd (omega arith)
    go (Some x) at = unfit_missing fits cause line xs ys k x is at

pub unfit_done : {A B : Type 0} (fits : A → B → Bool) (cause : CheckCause) (line : ℕ) (xs : List A) (ys : List B) (k : ℕ) → slice_get ys k ≡ None → slice_get xs k ≡ None
    → unfit_from fits cause line xs ys k ≡ None
unfit_done fits cause line xs ys k is at =
    let us = ended xs k at in
    let vs = ended ys k is in
    (λ j. first_unfit fits cause (line + k) (us j) (vs j)) ∙ unfit_none fits cause (line + k)

-- an object with its number
pub numbered : {X : Type 0} (n : ℕ) (xs : List X) (k : ℕ) (x : X) → slice_get xs k ≡ Some x → slice_get (enumerate_from n xs) k ≡ Some (n + k, x)
numbered n [] k x is = absurd cc
numbered n (y ∷ xs) zero x is =
    let same : y ≡ x = cc in
    let at : n ≡ n + 0 = omega arith in
    λ j. Some (at j, same j)
numbered n (y ∷ xs) (suc k) x is =
    let at : n + 1 + k ≡ n + suc k = omega arith in
    numbered (n + 1) xs k x is ∙ ap (λ (i : ℕ). Some (i, x)) at

pub unnumbered : {X : Type 0} (n : ℕ) (xs : List X) (k : ℕ) → slice_get xs k ≡ None → slice_get (enumerate_from n xs) k ≡ None
unnumbered n [] k is = refl
unnumbered n (y ∷ xs) zero is = absurd cc
unnumbered n (y ∷ xs) (suc k) is = unnumbered (n + 1) xs k is

-- a line in the place of an object
pub fits_some : {X B : Type 0} (fits : ℕ × X → B → Bool) (xs : List X) (k : ℕ) (x : X) (y : B) → slice_get xs k ≡ Some x → fits (k, x) y ≡ fits_at fits (enumerate_from 0 xs) k y
fits_some {X = X} fits xs k x y is =
    let number : 0 + k ≡ k = omega arith in
    ap (λ (o : Option (ℕ × X)). option_map_or (λ z. fits z y) o false) (sym (numbered 0 xs k x is ∙ ap (λ (i : ℕ). Some (i, x)) number))

-- a line behind the last object
pub fits_none : {X B : Type 0} (fits : ℕ × X → B → Bool) (xs : List X) (k : ℕ) (y : B) → slice_get xs k ≡ None → false ≡ fits_at fits (enumerate_from 0 xs) k y
fits_none {X = X} fits xs k y is = ap (λ (o : Option (ℕ × X)). option_map_or (λ z. fits z y) o false) (sym (unnumbered 0 xs k is))

-- ---- elements that are read

-- what is made of an element that is read at a place
pub read_at : {X Y : Type 0} (f : X → Y) (xs all : List X) (i k : ℕ) (x : X) → all ≡ xs → i < length all → x ≡ get_or all i x → k ≡ i → slice_get (map f xs) k ≡ Some (f x)
read_at f xs all i k x same lt is at = slice_get-map f xs k ∙ ap (option_map f) ((λ j. slice_get (sym same j) (at j)) ∙ slice_get_read all (length all) i x refl lt is)

-- behind the last
pub read_past : {X Y : Type 0} (f : X → Y) (xs all : List X) (k : ℕ) → all ≡ xs → length all ≤ k → slice_get (map f xs) k ≡ None
read_past f xs all k same behind = slice_get-map f xs k ∙ ap (option_map f) ((λ j. slice_get (sym same j) k) ∙ slice_get_past all k behind)
