-- Tracks that take the places of others, and what they say.
use Rattle.std.proofs.Common.{◌≡◌, ℕ, zero, suc, ◌+◌, ◌<◌, ◌≤◌, Bool, true, false, not, List, [], ◌∷◌, ◌++◌, length, map, take, drop, cond, Some, None, refl, sym, ap, subst, ◌∙◌, arith}
use Rattle.std.specs.Prelude.{fold, position, nat_lt}
use Rattle.std.specs.List.{AllZip, position_or_len}
use Rattle.std.proofs.lemmas.Bool.Decides.{nat_tests}
use Rattle.std.specs.Ordering.{is_lt}
use Rattle.std.specs.Str.{bytes_eq}
use Rattle.cj_track.specs.PlainTracks.{PlainTrack}
use Rattle.cj_track.specs.Tracks.{plain_track}
use Rattle.cj_track.specs.declared.track.Track.{Track}
use Rattle.cj_inputs.specs.Orders.{inserted}
use Rattle.cj_inputs.specs.Places.{file_of, first_behind, place_before, stands_before}
use Rattle.cj_inputs.specs.Updates.{by_name, with_others, without_first}
use Rattle.cj_inputs.proofs.UpdateLemmas.{alike_others, alike_without, file_name}

-- ---- where they stand

-- where one passes, it stands there
found_at : {X : Type 0} (p : X → Bool) (xs : List X) (i : ℕ) → position p xs ≡ Some i → (position_or_len p xs ≡ i) × (i < length xs)
found_at p xs i h = decided (nat_lt (position_or_len p xs) (length xs)) refl h
  where
    decided : (b : Bool) → nat_lt (position_or_len p xs) (length xs) ≡ b → cond b (Some (position_or_len p xs)) None ≡ Some i → (position_or_len p xs ≡ i) × (i < length xs)
    decided true below is =
        let same : position_or_len p xs ≡ i = cc in
        let lower : position_or_len p xs < length xs = grind (arith, nat_tests) in
        (same, subst (λ (k : ℕ). k < length xs) same lower)
    decided false below is = absurd cc

-- where none does, it stands behind all
found_nowhere : {X : Type 0} (p : X → Bool) (xs : List X) → position p xs ≡ None → length xs ≤ position_or_len p xs
found_nowhere p xs h = decided (nat_lt (position_or_len p xs) (length xs)) refl h
  where
    decided : (b : Bool) → nat_lt (position_or_len p xs) (length xs) ≡ b → cond b (Some (position_or_len p xs)) None ≡ None → length xs ≤ position_or_len p xs
    decided true below is = absurd cc
    decided false below is = grind (arith, nat_tests)

first_by_place : {X : Type 0} (n : X → List ℕ) (name : List ℕ) (xs : List X)
    → without_first n xs name
    ≡ take (position_or_len (λ x. bytes_eq (n x) name) xs) xs ++ drop (suc (position_or_len (λ x. bytes_eq (n x) name) xs)) xs
first_by_place n name [] = refl
first_by_place {X} n name (x ∷ xs) = decided (bytes_eq (n x) name) refl (first_by_place n name xs)
  where
    p : X → Bool
    p y = bytes_eq (n y) name

    decided : (b : Bool) → bytes_eq (n x) name ≡ b → without_first n xs name ≡ take (position_or_len p xs) xs ++ drop (suc (position_or_len p xs)) xs
        → without_first n (x ∷ xs) name ≡ take (position_or_len p (x ∷ xs)) (x ∷ xs) ++ drop (suc (position_or_len p (x ∷ xs))) (x ∷ xs)
    decided true is later =
        let here : position_or_len p (x ∷ xs) ≡ zero = rw is refl in
        subst (λ (i : ℕ). without_first n (x ∷ xs) name ≡ take i (x ∷ xs) ++ drop (suc i) (x ∷ xs)) (sym here) (rw is refl)
    decided false is later =
        let far : position_or_len p (x ∷ xs) ≡ suc (position_or_len p xs) = rw is (omega arith) in
        subst (λ (i : ℕ). without_first n (x ∷ xs) name ≡ take i (x ∷ xs) ++ drop (suc i) (x ∷ xs)) (sym far) (rw is (ap (λ (ys : List X). x ∷ ys) later))

-- the first of a name is left out where it stands
pub first_out : {X : Type 0} (n : X → List ℕ) (name : List ℕ) (xs : List X) (i : ℕ) → position (λ x. bytes_eq (n x) name) xs ≡ Some i
    → (i < length xs) × (without_first n xs name ≡ take i xs ++ drop (suc i) xs)
first_out {X} n name xs i is =
    let here = found_at (λ x. bytes_eq (n x) name) xs i is in
    (here.1, subst (λ (k : ℕ). without_first n xs name ≡ take k xs ++ drop (suc k) xs) here.0 (first_by_place n name xs))

-- where none has the name, none is left out
pub none_out : {X : Type 0} (n : X → List ℕ) (name : List ℕ) (xs : List X) → position (λ x. bytes_eq (n x) name) xs ≡ None → without_first n xs name ≡ xs
none_out {X} n name xs is = all xs (found_nowhere (λ x. bytes_eq (n x) name) xs is)
  where
    p : X → Bool
    p y = bytes_eq (n y) name

    all : (xs : List X) → length xs ≤ position_or_len p xs → without_first n xs name ≡ xs
    all [] past = refl
    all (x ∷ xs) past = decided (bytes_eq (n x) name) refl (all xs)
      where
        decided : (b : Bool) → bytes_eq (n x) name ≡ b → (length xs ≤ position_or_len p xs → without_first n xs name ≡ xs) → without_first n (x ∷ xs) name ≡ x ∷ xs
        decided true is later =
            let here : position_or_len p (x ∷ xs) ≡ 0 = rw is refl in
            absurd (omega (arith, past, here))
        decided false is later =
            let more : position_or_len p (x ∷ xs) ≡ 1 + position_or_len p xs = rw is refl in
            rw is (ap (λ (ys : List X). x ∷ ys) (later (omega (arith, past, more))))

-- one more stands where the first does not come before it
pub inserted_at : {X : Type 0} (n : X → List ℕ) (x : X) (xs : List X)
    → inserted (by_name n) x xs
    ≡ take (position_or_len (λ y. not (is_lt (by_name n y x))) xs) xs ++ x ∷ drop (position_or_len (λ y. not (is_lt (by_name n y x))) xs) xs
inserted_at n x [] = refl
inserted_at {X} n x (y ∷ ys) = decided (is_lt (by_name n y x)) refl (inserted_at n x ys)
  where
    p : X → Bool
    p z = not (is_lt (by_name n z x))

    decided : (b : Bool) → is_lt (by_name n y x) ≡ b → inserted (by_name n) x ys ≡ take (position_or_len p ys) ys ++ x ∷ drop (position_or_len p ys) ys
        → inserted (by_name n) x (y ∷ ys) ≡ take (position_or_len p (y ∷ ys)) (y ∷ ys) ++ x ∷ drop (position_or_len p (y ∷ ys)) (y ∷ ys)
    decided true is later =
        let far : position_or_len p (y ∷ ys) ≡ suc (position_or_len p ys) = rw is (omega arith) in
        subst (λ (i : ℕ). inserted (by_name n) x (y ∷ ys) ≡ take i (y ∷ ys) ++ x ∷ drop i (y ∷ ys)) (sym far) (rw is (ap (λ (zs : List X). y ∷ zs) later))
    decided false is later =
        let here : position_or_len p (y ∷ ys) ≡ zero = rw is refl in
        subst (λ (i : ℕ). inserted (by_name n) x (y ∷ ys) ≡ take i (y ∷ ys) ++ x ∷ drop i (y ∷ ys)) (sym here) (rw is refl)

pub place_within : {X : Type 0} (p : X → Bool) (xs : List X) → position_or_len p xs ≤ length xs
place_within p [] = omega arith
place_within p (x ∷ xs) = decided (p x) refl (place_within p xs)
  where
    decided : (b : Bool) → p x ≡ b → position_or_len p xs ≤ length xs → position_or_len p (x ∷ xs) ≤ length (x ∷ xs)
    decided true is later = rw is (omega arith)
    decided false is later = rw is (omega (arith, later))

-- the last of others is put in first
pub others_last : {X : Type 0} (n : X → List ℕ) (others : List X) (x : X) (xs : List X) → with_others n (others ++ x ∷ []) xs ≡ with_others n others (inserted (by_name n) x xs)
others_last n [] x xs = refl
others_last {X} n (other ∷ others) x xs = ap (λ (ys : List X). inserted (by_name n) other ys) (others_last n others x xs)

-- ---- what they say

zipped : {X Y : Type 0} (f : X → Y) (xs : List X) → AllZip (λ x y. f x ≡ y) xs (map f xs)
zipped f [] = tt
zipped f (x ∷ xs) = (refl, zipped f xs)

unzipped : {X Y : Type 0} (f : X → Y) (xs : List X) (ys : List Y) → AllZip (λ x y. f x ≡ y) xs ys → map f xs ≡ ys
unzipped f [] [] all = refl
unzipped f [] (y ∷ ys) all = absurd all
unzipped f (x ∷ xs) [] all = absurd all
unzipped {X} {Y} f (x ∷ xs) (y ∷ ys) all = ap (λ (z : Y). z ∷ map f xs) all.0 ∙ ap (λ (zs : List Y). y ∷ zs) (unzipped f xs ys all.1)

-- tracks in the places of others say what their ephemerides do there
pub places_said : (names : List (List ℕ)) (others tracks : List Track)
    → map plain_track (with_others file_of others (fold (without_first file_of) tracks names))
    ≡ with_others file_name (map plain_track others) (fold (without_first file_name) (map plain_track tracks) names)
places_said names others tracks =
    let R : Track → PlainTrack → Type 0 = λ x y. plain_track x ≡ y in
    let same : (x : Track) (y : PlainTrack) → R x y → file_name y ≡ file_of x = λ x y is. ap file_name (sym is) in
    unzipped plain_track (with_others file_of others (fold (without_first file_of) tracks names))
    (with_others file_name (map plain_track others) (fold (without_first file_name) (map plain_track tracks) names))
    (alike_others R file_of file_name same others (map plain_track others) (fold (without_first file_of) tracks names) (fold (without_first file_name) (map plain_track tracks) names)
    (zipped plain_track others) (alike_without R file_of file_name same names tracks (map plain_track tracks) (zipped plain_track tracks)))

-- what is left out makes fewer, and what is put in more
pub others_long : {X : Type 0} (n : X → List ℕ) (others xs : List X) → length (with_others n others xs) ≡ length xs + length others
others_long n [] xs = omega arith
others_long {X} n (other ∷ others) xs = omega (arith, one_more other (with_others n others xs), others_long n others xs)
  where
    one_more : (x : X) (ys : List X) → length (inserted (by_name n) x ys) ≡ 1 + length ys
    one_more x [] = omega arith
    one_more x (y ∷ ys) = decided (is_lt (by_name n y x)) (one_more x ys)
      where
        decided : (b : Bool) → length (inserted (by_name n) x ys) ≡ 1 + length ys → length (cond b (y ∷ inserted (by_name n) x ys) (x ∷ y ∷ ys)) ≡ 1 + length (y ∷ ys)
        decided true later = omega (arith, later)
        decided false later = omega arith

-- ---- the place of another track

-- it is that of the first which does not stand before it
pub place_found : (tracks : List Track) (other : Track) (i : ℕ) → first_behind tracks other ≡ Some i → i ≡ place_before tracks other
place_found tracks other i is = sym (found_at (λ track. not (stands_before track other)) tracks i is).0

-- and behind all where each does
pub place_past : (tracks : List Track) (other : Track) → first_behind tracks other ≡ None → length tracks ≡ place_before tracks other
place_past tracks other is =
    let p : Track → Bool = λ track. not (stands_before track other) in
    omega (arith, found_nowhere p tracks is, place_within p tracks)

-- another track at its place
pub other_placed : (tracks : List Track) (other : Track) (place : ℕ) → place ≡ place_before tracks other → inserted (by_name file_of) other tracks ≡ take place tracks ++ other ∷ drop place tracks
other_placed tracks other place is =
    subst (λ (k : ℕ). inserted (by_name file_of) other tracks ≡ take k tracks ++ other ∷ drop k tracks) (sym is) (inserted_at file_of other tracks)

pub place_short : (tracks : List Track) (other : Track) → place_before tracks other ≤ length tracks
place_short tracks other = place_within (λ track. not (stands_before track other)) tracks
