-- Values by object and slot: rows as a program keeps them, and what stands where after a row is filled.
use Rattle.std.proofs.Common.{◌≡◌, ℕ, zero, suc, ◌+◌, ◌<◌, ◌≤◌, Bool, true, false, cond, List, [], ◌∷◌, ◌++◌, length, get_or, map, take, replicate, slice_set, slice_index_or, Some, refl, sym, ap, ◌∙◌, subst, inl, inr, arith}
use Rattle.std.specs.Prelude.{All, option_and_then, slice_get}
use Rattle.std.specs.List.{range_with_len}
use Rattle.std.proofs.lemmas.Bool.{cases_eq, cases_lt}
use Rattle.std.proofs.lemmas.List.{length-set, map_push, take_more}
use Rattle.std.proofs.lemmas.Option.{slice_get-get_or}
use Rattle.cj_case.specs.Tables.{Table, IsEven, even_table, filled, filled_row, row_of, value_at}

-- ---- rows as a program keeps them

-- what is seen of a list in which one element is replaced
pub seen_set : {V X : Type 0} (f : V → X) (vs : List V) (k : ℕ) (v : V) → map f (slice_set vs k v) ≡ slice_set (map f vs) k (f v)
seen_set f [] k v = refl
seen_set f (x ∷ vs) zero v = refl
seen_set f (x ∷ vs) (suc k) v = ap (λ ys. f x ∷ ys) (seen_set f vs k v)

-- what is seen of the row of an object
pub row_seen : {V X : Type 0} (f : V → List X) (vs : List V) (object : ℕ) (d : V) → object < length vs → row_of (map f vs) object ≡ f (slice_index_or vs object d)
row_seen f [] object d lt = absurd (omega arith)
row_seen f (v ∷ vs) zero d lt = refl
row_seen f (v ∷ vs) (suc object) d lt = row_seen f vs object d (omega arith)

pub row_got : {V X : Type 0} (f : V → List X) (vs : List V) (object : ℕ) (v : V) → object < length vs → v ≡ get_or vs object v → slice_get (map f vs) object ≡ Some (f v)
row_got f [] object v lt is = absurd (omega arith)
row_got f (x ∷ vs) zero v lt is = ap (λ y. Some (f y)) (sym is)
row_got f (x ∷ vs) (suc object) v lt is = row_got f vs object v (omega arith) is

-- what holds of each element holds where one is replaced by another of which it holds
pub all_set : {V : Type 0} (P : V → Type 0) (vs : List V) (k : ℕ) (v : V) → All P vs → P v → All P (slice_set vs k v)
all_set P [] k v all here j d lt = all j d lt
all_set P (x ∷ vs) zero v all here zero d lt = here
all_set P (x ∷ vs) zero v all here (suc j) d lt = all (suc j) d lt
all_set P (x ∷ vs) (suc k) v all here zero d lt = all 0 d (omega arith)
all_set P (x ∷ vs) (suc k) v all here (suc j) d lt = all_set P vs k v (λ i e below. all (suc i) e (omega arith)) here j d (omega arith)

-- of rows and of what is seen of them
pub all_seen : {V X : Type 0} (P : X → Type 0) (f : V → X) (vs : List V) → All (λ v. P (f v)) vs → All P (map f vs)
all_seen P f [] all k d lt = absurd (omega arith)
all_seen P f (v ∷ vs) all zero d lt = all 0 v (omega arith)
all_seen P f (v ∷ vs) all (suc k) d lt = all_seen P f vs (λ i e below. all (suc i) e (omega arith)) k d (omega arith)

-- of what is seen of rows and of the rows
all_unseen : {V X : Type 0} (P : X → Type 0) (f : V → X) (vs : List V) → All P (map f vs) → All (λ v. P (f v)) vs
all_unseen P f [] all k d lt = absurd (omega arith)
all_unseen P f (v ∷ vs) all zero d lt = all 0 (f d) (omega arith)
all_unseen P f (v ∷ vs) all (suc k) d lt = all_unseen P f vs (λ i e below. all (suc i) e (omega arith)) k d (omega arith)

pub rows_even : {V X : Type 0} (f : V → List X) (vs : List V) (t : Table X) → map f vs ≡ t.rows → IsEven t → All (λ v. length (f v) ≡ t.slots) vs
rows_even f vs t same even = all_unseen (λ row. length row ≡ t.slots) f vs (subst (λ rows. All (λ row. length row ≡ t.slots) rows) (sym same) even)

-- what is seen of one element more
pub seen_more : {V W Y : Type 0} (f : V → Y) (h : W → Y) (vs : List V) (i : ℕ) (v : V) (old new : List W) (w : W) → i < length vs → v ≡ get_or vs i v → new ≡ old ++ w ∷ [] → h w ≡ f v
    → map h old ≡ map f (take i vs) → map h new ≡ map f (take (i + 1) vs)
seen_more f h vs i v old new w lt is pushed same before =
    ap (map h) pushed ∙ map_push h old w ∙ (λ j. before j ++ same j ∷ []) ∙ sym (map_push f (take i vs) v)
    ∙ ap (map f) (ap (λ x. take i vs ++ x ∷ []) is ∙ sym (take_more vs i v lt))

-- ---- a row is filled

pub filled_one_more : {X : Type 0} (row : List X) (first n at : ℕ) (x : X) → at ≡ first + n → at < length row → slice_set (filled_row first n x row) at x ≡ filled_row first (suc n) x row
filled_one_more [] first n at x is lt = absurd (omega arith)
filled_one_more (y ∷ row) zero zero zero x is lt = refl
filled_one_more (y ∷ row) zero zero (suc at) x is lt = absurd (omega arith)
filled_one_more (y ∷ row) zero (suc n) zero x is lt = absurd (omega arith)
filled_one_more (y ∷ row) zero (suc n) (suc at) x is lt = ap (λ xs. x ∷ xs) (filled_one_more row zero n at x (omega arith) (omega arith))
filled_one_more (y ∷ row) (suc first) n zero x is lt = absurd (omega arith)
filled_one_more (y ∷ row) (suc first) n (suc at) x is lt = ap (λ xs. y ∷ xs) (filled_one_more row first n at x (omega arith) (omega arith))

pub filled_none : {X : Type 0} (row : List X) (first : ℕ) (x : X) → filled_row first 0 x row ≡ row
filled_none [] zero x = refl
filled_none [] (suc first) x = refl
filled_none (y ∷ row) zero x = refl
filled_none (y ∷ row) (suc first) x = ap (λ xs. y ∷ xs) (filled_none row first x)

pub length-filled_row : {X : Type 0} (row : List X) (first n : ℕ) (x : X) → first + n ≤ length row → length (filled_row first n x row) ≡ length row
length-filled_row [] zero zero x le = refl
length-filled_row [] zero (suc n) x le = absurd (omega arith)
length-filled_row [] (suc first) n x le = absurd (omega arith)
length-filled_row (y ∷ row) zero zero x le = refl
length-filled_row (y ∷ row) zero (suc n) x le = ap suc (length-filled_row row zero n x (omega arith))
length-filled_row (y ∷ row) (suc first) n x le = ap suc (length-filled_row row first n x (omega arith))

row_inside : {X : Type 0} (row : List X) (first n k : ℕ) (x : X) → first + n ≤ length row → first ≤ k → k < first + n → slice_get (filled_row first n x row) k ≡ Some x
row_inside row zero zero k x le low high = absurd (omega arith)
row_inside [] zero (suc n) k x le low high = absurd (omega arith)
row_inside (y ∷ row) zero (suc n) zero x le low high = refl
row_inside (y ∷ row) zero (suc n) (suc k) x le low high = row_inside row zero n k x (omega arith) (omega arith) (omega arith)
row_inside [] (suc first) n k x le low high = absurd (omega arith)
row_inside (y ∷ row) (suc first) n zero x le low high = absurd (omega arith)
row_inside (y ∷ row) (suc first) n (suc k) x le low high = row_inside row first n k x (omega arith) (omega arith) (omega arith)

row_before : {X : Type 0} (row : List X) (first n k : ℕ) (x : X) → first + n ≤ length row → k < first → slice_get (filled_row first n x row) k ≡ slice_get row k
row_before row zero n k x le high = absurd (omega arith)
row_before [] (suc first) n k x le high = absurd (omega arith)
row_before (y ∷ row) (suc first) n zero x le high = refl
row_before (y ∷ row) (suc first) n (suc k) x le high = row_before row first n k x (omega arith) (omega arith)

row_behind : {X : Type 0} (row : List X) (first n k : ℕ) (x : X) → first + n ≤ length row → first + n ≤ k → slice_get (filled_row first n x row) k ≡ slice_get row k
row_behind row zero zero k x le low = refl
row_behind [] zero (suc n) k x le low = absurd (omega arith)
row_behind (y ∷ row) zero (suc n) zero x le low = absurd (omega arith)
row_behind (y ∷ row) zero (suc n) (suc k) x le low = row_behind row zero n k x (omega arith) (omega arith)
row_behind [] (suc first) n k x le low = absurd (omega arith)
row_behind (y ∷ row) (suc first) n zero x le low = absurd (omega arith)
row_behind (y ∷ row) (suc first) n (suc k) x le low = row_behind row first n k x (omega arith) (omega arith)

row_outside : {X : Type 0} (row : List X) (first n k : ℕ) (x : X) → first + n ≤ length row → (first ≤ k → k < first + n → ⊥) → slice_get (filled_row first n x row) k ≡ slice_get row k
row_outside row first n k x le away = elim (cases_lt k first) [
  | inl before ↦ row_before row first n k x le before
  | inr after ↦ elim (cases_lt k (first + n)) [
    | inl among ↦ absurd (away after among)
    | inr behind ↦ row_behind row first n k x le behind
  ]
]

-- ---- an object is given one value

set_here : {X : Type 0} (xs : List X) (k : ℕ) (x : X) → k < length xs → slice_get (slice_set xs k x) k ≡ Some x
set_here [] k x lt = absurd (omega arith)
set_here (y ∷ xs) zero x lt = refl
set_here (y ∷ xs) (suc k) x lt = set_here xs k x (omega arith)

set_elsewhere : {X : Type 0} (xs : List X) (k j : ℕ) (x : X) → (j ≡ k → ⊥) → slice_get (slice_set xs k x) j ≡ slice_get xs j
set_elsewhere [] k j x apart = refl
set_elsewhere (y ∷ xs) zero zero x apart = absurd (apart refl)
set_elsewhere (y ∷ xs) zero (suc j) x apart = refl
set_elsewhere (y ∷ xs) (suc k) zero x apart = refl
set_elsewhere (y ∷ xs) (suc k) (suc j) x apart = set_elsewhere xs k j x (λ e. apart (ap suc e))

-- the row of an object of an even table
pub row_is : {X : Type 0} (t : Table X) (object : ℕ) → IsEven t → object < length t.rows → (slice_get t.rows object ≡ Some (row_of t.rows object)) × (length (row_of t.rows object) ≡ t.slots)
row_is t object even exists = (slice_get-get_or t.rows object [] exists, even object [] exists)

pub value_in_row : {X : Type 0} (rows : List (List X)) (object slot : ℕ) (row : List X) → slice_get rows object ≡ Some row → value_at rows object slot ≡ slice_get row slot
value_in_row rows object slot row is = ap (λ o. option_and_then (λ r. slice_get r slot) o) is

-- the value that is filled in
pub filled_there : {X : Type 0} (object first count : ℕ) (x : X) (t : Table X) (slot : ℕ) → IsEven t → object < length t.rows → first + count ≤ t.slots → first ≤ slot → slot < first + count
    → value_at (filled object first count x t).rows object slot ≡ Some x
filled_there object first count x t slot even exists within low high =
    let is = row_is t object even exists in
    let len = is.1 in
    value_in_row (filled object first count x t).rows object slot (filled_row first count x (row_of t.rows object)) (set_here t.rows object (filled_row first count x (row_of t.rows object)) exists)
    ∙ row_inside (row_of t.rows object) first count slot x (omega arith) low high

-- all else is as before
pub filled_elsewhere : {X : Type 0} (object first count : ℕ) (x : X) (t : Table X) (other slot : ℕ) → IsEven t → object < length t.rows → first + count ≤ t.slots
    → (other ≡ object → first ≤ slot → slot < first + count → ⊥) → value_at (filled object first count x t).rows other slot ≡ value_at t.rows other slot
filled_elsewhere object first count x t other slot even exists within away = elim (cases_eq other object) [
  | inr apart ↦ ap (λ o. option_and_then (λ r. slice_get r slot) o) (set_elsewhere t.rows object other (filled_row first count x (row_of t.rows object)) apart)
  | inl same ↦
      let is = row_is t object even exists in
      let len = is.1 in
      subst (λ (o : ℕ). value_at (filled object first count x t).rows o slot ≡ value_at t.rows o slot) (sym same)
      (value_in_row (filled object first count x t).rows object slot (filled_row first count x (row_of t.rows object)) (set_here t.rows object (filled_row first count x (row_of t.rows object)) exists)
      ∙ row_outside (row_of t.rows object) first count slot x (omega arith) (away same)
      ∙ sym (value_in_row t.rows object slot (row_of t.rows object) is.0))
]

-- the same by a test of what is filled in
pub filled_where : {X : Type 0} (object first count : ℕ) (x : X) (t : Table X) (other slot : ℕ) (b : Bool) → IsEven t → object < length t.rows → first + count ≤ t.slots
    → (b ≡ true → (other ≡ object) × (first ≤ slot) × (slot < first + count)) → (b ≡ false → other ≡ object → first ≤ slot → slot < first + count → ⊥)
    → value_at (filled object first count x t).rows other slot ≡ cond b (Some x) (value_at t.rows other slot)
filled_where object first count x t other slot true even exists within inside outside =
    let is = inside refl in
    ap (λ (o : ℕ). value_at (filled object first count x t).rows o slot) is.0 ∙ filled_there object first count x t slot even exists within is.1 is.2
filled_where object first count x t other slot false even exists within inside outside = filled_elsewhere object first count x t other slot even exists within (outside refl)

pub filled_even : {X : Type 0} (object first count : ℕ) (x : X) (t : Table X) → IsEven t → object < length t.rows → first + count ≤ t.slots → IsEven (filled object first count x t)
filled_even object first count x t even exists within =
    let len = (row_is t object even exists).1 in
    all_set (λ row. length row ≡ t.slots) t.rows object (filled_row first count x (row_of t.rows object)) even (length-filled_row (row_of t.rows object) first count x (omega arith) ∙ len)

pub filled_objects : {X : Type 0} (object first count : ℕ) (x : X) (t : Table X) → length (filled object first count x t).rows ≡ length t.rows
filled_objects object first count x t = length-set t.rows object (filled_row first count x (row_of t.rows object))

-- ---- one value everywhere

replicated : {X : Type 0} (n i : ℕ) (x : X) → i < n → slice_get (replicate n x) i ≡ Some x
replicated zero i x lt = absurd (omega arith)
replicated (suc n) zero x lt = refl
replicated (suc n) (suc i) x lt = replicated n i x (omega arith)

pub value_everywhere : {X : Type 0} (objects slots object slot : ℕ) (x : X) → object < objects → slot < slots → value_at (even_table objects slots x).rows object slot ≡ Some x
value_everywhere objects slots object slot x exists lt =
    value_in_row (replicate objects (replicate slots x)) object slot (replicate slots x) (replicated objects object (replicate slots x) exists) ∙ replicated slots slot x lt

pub length-replicated : {X : Type 0} (n : ℕ) (x : X) → length (replicate n x) ≡ n
length-replicated zero x = refl
length-replicated (suc n) x = ap suc (length-replicated n x)

all_replicated : {X : Type 0} (P : X → Type 0) (n : ℕ) (x : X) → P x → All P (replicate n x)
all_replicated P zero x holds k d lt = absurd (omega arith)
all_replicated P (suc n) x holds zero d lt = holds
all_replicated P (suc n) x holds (suc k) d lt = all_replicated P n x holds k d (omega arith)

pub even_everywhere : {X : Type 0} (objects slots : ℕ) (x : X) → IsEven (even_table objects slots x)
even_everywhere objects slots x = all_replicated (λ row. length row ≡ slots) objects (replicate slots x) (length-replicated slots x)

-- ---- the values in a slot

-- the value of a row that has one there
pub value_got : {X : Type 0} (row : List X) (slot : ℕ) (x : X) → slot < length row → x ≡ get_or row slot x → Some x ≡ slice_get row slot
value_got row slot x lt is = ap (λ y. Some y) is ∙ sym (slice_get-get_or row slot x lt)

-- the values of rows in a slot, and of what is seen of the rows
pub slot_seen : {V X : Type 0} (f : V → List X) (vs : List V) (slot : ℕ) → map (λ v. slice_get (f v) slot) vs ≡ map (λ row. slice_get row slot) (map f vs)
slot_seen f [] slot = refl
slot_seen f (v ∷ vs) slot = ap (λ xs. slice_get (f v) slot ∷ xs) (slot_seen f vs slot)

-- ---- a row that is made slot by slot

made_at : {X : Type 0} (f : ℕ → X) (a n i : ℕ) → i < n → slice_get (map f (range_with_len a n)) i ≡ Some (f (a + i))
made_at f a zero i lt = absurd (omega arith)
made_at f a (suc n) zero lt = let same : a ≡ a + 0 = omega arith in ap (λ (k : ℕ). Some (f k)) same
made_at f a (suc n) (suc i) lt = let same : a + 1 + i ≡ a + suc i = omega arith in made_at f (a + 1) n i (omega arith) ∙ ap (λ (k : ℕ). Some (f k)) same

pub made_in_slot : {X : Type 0} (f : ℕ → X) (n slot : ℕ) → slot < n → slice_get (map f (range_with_len 0 n)) slot ≡ Some (f slot)
made_in_slot f n slot lt = let at : 0 + slot ≡ slot = omega arith in made_at f 0 n slot lt ∙ ap (λ (k : ℕ). Some (f k)) at

-- the rows of made objects
pub value_made : {A X : Type 0} (f : A → ℕ → X) (all : List A) (n object slot : ℕ) (a : A) → slice_get all object ≡ Some a → slot < n
    → value_at (map (λ a. map (f a) (range_with_len 0 n)) all) object slot ≡ Some (f a slot)
value_made f [] n object slot a is lt = absurd cc
value_made f (b ∷ all) n zero slot a is lt = let same : b ≡ a = cc in made_in_slot (f b) n slot lt ∙ ap (λ c. Some (f c slot)) same
value_made f (b ∷ all) n (suc object) slot a is lt = value_made f all n object slot a is lt

-- a table whose values are known is the one that is made of them
row_made : {X : Type 0} (f : ℕ → X) (a n : ℕ) (row : List X) → length row ≡ n → ((slot : ℕ) → slot < n → slice_get row slot ≡ Some (f (a + slot))) → row ≡ map f (range_with_len a n)
row_made f a zero [] len each = refl
row_made f a (suc n) [] len each = absurd (omega (arith, len))
row_made f a zero (x ∷ row) len each = absurd (omega (arith, len))
row_made f a (suc n) (x ∷ row) len each =
    let first : Some x ≡ Some (f (a + 0)) = each 0 (omega arith) in
    let at : a + 0 ≡ a = omega arith in
    let own : x ≡ f (a + 0) = cc in
    let here : x ≡ f a = own ∙ ap f at in
    let rest = row_made f (a + 1) n row (omega (arith, len)) (λ slot lt. let next : a + suc slot ≡ a + 1 + slot = omega arith in each (suc slot) (omega arith) ∙ ap (λ (k : ℕ). Some (f k)) next) in
    λ i. here i ∷ rest i

pub rows_made : {X : Type 0} (f : ℕ → ℕ → X) (a n : ℕ) (rows : List (List X)) → All (λ row. length row ≡ n) rows
    → ((object slot : ℕ) → object < length rows → slot < n → value_at rows object slot ≡ Some (f (a + object) slot))
    → rows ≡ map (λ object. map (f object) (range_with_len 0 n)) (range_with_len a (length rows))
rows_made f a n [] even each = refl
rows_made f a n (row ∷ rows) even each =
    let at : a + 0 ≡ a = omega arith in
    let here = row_made (f a) 0 n row (even 0 [] (omega arith)) (λ slot lt.
    let first : 0 + slot ≡ slot = omega arith in
    each 0 slot (omega arith) lt ∙ ap (λ (o : ℕ). Some (f o slot)) at ∙ ap (λ (k : ℕ). Some (f a k)) (sym first)) in
    let rest = rows_made f (a + 1) n rows (λ k d lt. even (suc k) d (omega arith)) (λ object slot exists lt.
    let next : a + suc object ≡ a + 1 + object = omega arith in
    each (suc object) slot (omega arith) lt ∙ ap (λ (o : ℕ). Some (f o slot)) next) in
    λ i. here i ∷ rest i
