-- The last piece of a list that covers a tick.
use Rattle.std.proofs.Common.{◌≡◌, ℕ, suc, ◌+◌, ◌<◌, ◌≤◌, List, [], ◌∷◌, ◌++◌, ◌⊎◌, inl, inr, length, subst, true, false, Bool, Option, Some, None, refl, sym, ap, ◌∙◌, arith, cond}
use Rattle.std.specs.Prelude.{filter, slice_get}
use Rattle.std.specs.List.{enumerate_from, last_or}
use Rattle.std.proofs.lemmas.Bool.{cases_Bool}
use Rattle.std.proofs.lemmas.Bool.Decides.{nat_tests}
use Rattle.cj_hermite.specs.Pieces.{PlainPiece, covers, last_covering}
use Rattle.cj_hermite.specs.PiecesOfTracks.{Covers}

-- none of the pieces covers the tick
abbrev pub Misses : ℕ → List PlainPiece → Type 0
Misses m [] = Unit {0}
Misses m (x ∷ xs) = (covers m x ≡ false) × Misses m xs

pub misses-append : (m : ℕ) (xs ys : List PlainPiece) → Misses m xs → Misses m ys → Misses m (xs ++ ys)
misses-append m [] ys h k = k
misses-append m (x ∷ xs) ys h k = (h.0, misses-append m xs ys h.1 k)

-- the numbered pieces that cover the tick
abbrev pub covering : ℕ → ℕ → List PlainPiece → List (ℕ × PlainPiece)
covering m n xs = filter (λ x. covers m x.1) (enumerate_from n xs)

pub missed : (m n : ℕ) (xs : List PlainPiece) → Misses m xs → covering m n xs ≡ []
missed m n [] h = refl
missed m n (x ∷ xs) h = rw h.0 (missed m (n + 1) xs h.1)

either_append : (b : Bool) (x : ℕ × PlainPiece) (xs ys : List (ℕ × PlainPiece)) → cond b (x ∷ (xs ++ ys)) (xs ++ ys) ≡ cond b (x ∷ xs) xs ++ ys
either_append true x xs ys = refl
either_append false x xs ys = refl

pub covering-append : (m n : ℕ) (xs ys : List PlainPiece) → covering m n (xs ++ ys) ≡ covering m n xs ++ covering m (n + length xs) ys
covering-append m n [] ys = ap (λ (k : ℕ). covering m k ys) (omega arith)
covering-append m n (x ∷ xs) ys =
    ap (λ (found : List (ℕ × PlainPiece)). cond (covers m x) ((n, x) ∷ found) found) (covering-append m (n + 1) xs ys)
    ∙ either_append (covers m x) (n, x) (covering m (n + 1) xs) (covering m (n + 1 + length xs) ys)
    ∙ ap (λ (k : ℕ). covering m n (x ∷ xs) ++ covering m k ys) (omega arith)

last_or-append : {A : Type 0} (o : Option A) (xs ys : List A) → last_or o (xs ++ ys) ≡ last_or (last_or o xs) ys
last_or-append o [] ys = refl
last_or-append o (x ∷ xs) ys = last_or-append (Some x) xs ys

last_or-some : {A : Type 0} (o : Option A) (z : A) (xs : List A) → last_or None xs ≡ Some z → last_or o xs ≡ Some z
last_or-some o z [] h = absurd cc
last_or-some o z (x ∷ xs) h = h

-- where the pieces behind miss the tick
pub last_before : (m n : ℕ) (xs ys : List PlainPiece) → Misses m ys → last_covering m n (xs ++ ys) ≡ last_covering m n xs
last_before m n xs ys h =
    ap (λ (found : List (ℕ × PlainPiece)). last_or None found) (covering-append m n xs ys)
    ∙ last_or-append None (covering m n xs) (covering m (n + length xs) ys)
    ∙ ap (λ (found : List (ℕ × PlainPiece)). last_or (last_covering m n xs) found) (missed m (n + length xs) ys h)

-- where one of those behind covers the tick
pub last_behind : (m n k : ℕ) (z : ℕ × PlainPiece) (xs ys : List PlainPiece) → k ≡ n + length xs → last_covering m k ys ≡ Some z → last_covering m n (xs ++ ys) ≡ Some z
last_behind m n k z xs ys e h =
    ap (λ (found : List (ℕ × PlainPiece)). last_or None found) (covering-append m n xs ys)
    ∙ last_or-append None (covering m n xs) (covering m (n + length xs) ys)
    ∙ last_or-some (last_covering m n xs) z (covering m (n + length xs) ys) (ap (λ (i : ℕ). last_covering m i ys) (sym e) ∙ h)

-- where none covers the tick
pub last_none : (m n : ℕ) (xs : List PlainPiece) → Misses m xs → last_covering m n xs ≡ None
last_none m n xs h = ap (λ (found : List (ℕ × PlainPiece)). last_or None found) (missed m n xs h)

-- the first of these covers the tick, and no other does
pub last_first : (m n : ℕ) (x : PlainPiece) (xs : List PlainPiece) → covers m x ≡ true → Misses m xs → last_covering m n (x ∷ xs) ≡ Some (n, x)
last_first m n x xs here h = rw here (ap (λ (found : List (ℕ × PlainPiece)). last_or (Some (n, x)) found) (missed m (n + 1) xs h))

-- how the test is decided
pub covers_if : (m : ℕ) (x : PlainPiece) → x.from.at ≤ m → m ≤ x.to.at → x.first ≤ m → m ≤ x.last → covers m x ≡ true
covers_if m x a b c d = grind (arith, nat_tests)

pub before_from : (m : ℕ) (x : PlainPiece) → m < x.from.at → covers m x ≡ false
before_from m x h = grind (arith, nat_tests)

pub before_first : (m : ℕ) (x : PlainPiece) → m < x.first → covers m x ≡ false
before_first m x h = grind (arith, nat_tests)

pub behind_last : (m : ℕ) (x : PlainPiece) → x.last < m → covers m x ≡ false
behind_last m x h = grind (arith, nat_tests)

pub covers_is : (m : ℕ) (x : PlainPiece) → covers m x ≡ true → Covers m x
covers_is m x h = record { from = grind (arith, nat_tests); to = grind (arith, nat_tests); first = grind (arith, nat_tests); last = grind (arith, nat_tests) }

-- what was found last: its place in the list, and that it covers the tick
pub record IsFound (m n : ℕ) (xs : List PlainPiece) (z : ℕ × PlainPiece) : Type 0 where
  pub place : ℕ
  pub number : z.0 ≡ n + place
  pub is : slice_get xs place ≡ Some z.1
  pub here : covers m z.1 ≡ true

found_here : (m n : ℕ) (x : PlainPiece) (xs : List PlainPiece) (z : ℕ × PlainPiece) → covers m x ≡ true → Some (n, x) ≡ Some z → IsFound m n (x ∷ xs) z
found_here m n x xs z here h =
    let e : (n, x) ≡ z = cc in
    subst (λ (y : ℕ × PlainPiece). IsFound m n (x ∷ xs) y) e (record { place = 0; number = omega arith; is = refl; here = here })

found_later : (m n : ℕ) (x : PlainPiece) (xs : List PlainPiece) (z : ℕ × PlainPiece) → IsFound m (n + 1) xs z → IsFound m n (x ∷ xs) z
found_later m n x xs z found = record { place = suc found.place; number = omega (arith, found.number); is = found.is; here = found.here }

found_or : (m n : ℕ) (o : Option (ℕ × PlainPiece)) (xs : List PlainPiece) (z : ℕ × PlainPiece) → last_or o (covering m n xs) ≡ Some z → (o ≡ Some z) ⊎ IsFound m n xs z
found_or m n o [] z h = inl h
found_or m n o (x ∷ xs) z h =
    elim (cases_Bool (covers m x)) [
      | inl here ↦
          elim (found_or m (n + 1) (Some (n, x)) xs z (rw here at h)) [ inl same ↦ inr (found_here m n x xs z here same) | inr found ↦ inr (found_later m n x xs z found) ]
      | inr missed ↦ elim (found_or m (n + 1) o xs z (rw missed at h)) [ inl same ↦ inl same | inr found ↦ inr (found_later m n x xs z found) ]
    ]

pub found_is : (m n : ℕ) (xs : List PlainPiece) (z : ℕ × PlainPiece) → last_covering m n xs ≡ Some z → IsFound m n xs z
found_is m n xs z h = elim (found_or m n None xs z h) [ inl none ↦ absurd cc | inr found ↦ found ]
