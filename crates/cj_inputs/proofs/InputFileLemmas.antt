-- The order of a folder's entries.
use Rattle.std.proofs.Common.{◌≡◌, ◌∙◌, ap, sym, ℕ, zero, suc, ◌+◌, ◌<◌, ◌≤◌, List, [], ◌∷◌, ◌++◌}
use Rattle.std.proofs.Common.{length, drop, add-one, drop-cons, append_assoc, Bool, true, false, cond, Some, get_or, arith, refl}
use Rattle.std.specs.Prelude.{All, slice_get}
use Rattle.std.specs.List.{AllByRecursion}
use Rattle.std.proofs.lemmas.List.Elements.{All-from_recursion}
use Rattle.std.specs.Cmp.{IsTotalOrder}
use Rattle.std.specs.Cmp.Lexicographic.{slice_cmp}
use Rattle.std.specs.Ordering.{nat_cmp}
use Rattle.std.proofs.lemmas.Cmp.{then_total, on_total, nat_list_cmp_total, nat_cmp_total}
use Rattle.std.proofs.lemmas.Map.Lookups.{CmpEqualImpliesEq, exact_pairs, exact_bytes, exact_unsigned}
use Rattle.cj_inputs.specs.declared.input_files.Entry.{Entry}
use Rattle.std.specs.declared.cmp.Ordering.{Ordering}
use Rattle.std.specs.Ordering.{is_lt}
use Rattle.cj_inputs.specs.Orders.{inserted, sorted}
use Rattle.cj_inputs.specs.InputFiles.{PlainApart, entry_cmp, entries_from, is_taken, inputs_of}

pub entries_total : IsTotalOrder entry_cmp
entries_total = then_total (on_total (λ (e : Entry). e.name) nat_list_cmp_total) (on_total (λ (e : Entry). e.number) nat_cmp_total)

-- entries that tie are one
pub entries_exact : CmpEqualImpliesEq entry_cmp
entries_exact a b h =
    ap (λ (p : List ℕ × ℕ). record { name = p.0; number = p.1 })
    (exact_pairs (slice_cmp nat_cmp) nat_cmp exact_bytes exact_unsigned (a.name, a.number) (b.name, b.number) h)

length_inserted : {K : Type 0} (R : K → K → Ordering) (x : K) (ys : List K) → length (inserted R x ys) ≡ 1 + length ys
length_inserted R x [] = omega arith
length_inserted R x (y ∷ ys) = chosen (is_lt (R y x)) (length_inserted R x ys)
  where
    chosen : (b : Bool) → length (inserted R x ys) ≡ 1 + length ys → length (cond b (y ∷ inserted R x ys) (x ∷ y ∷ ys)) ≡ 1 + length (y ∷ ys)
    chosen true h = omega arith
    chosen false h = omega arith

length_sorted : {K : Type 0} (R : K → K → Ordering) (xs : List K) → length (sorted R xs) ≡ length xs
length_sorted R [] = refl
length_sorted R (x ∷ xs) = omega (arith, length_inserted R x (sorted R xs), length_sorted R xs)

length_entries : (suffix : List ℕ) (apart : PlainApart) (n : ℕ) (names : List (List ℕ)) → length (entries_from suffix apart n names) ≤ length names
length_entries suffix apart n [] = omega arith
length_entries suffix apart n (name ∷ names) = chosen (is_taken suffix apart name) (length_entries suffix apart (n + 1) names)
  where
    chosen : (b : Bool) → length (entries_from suffix apart (n + 1) names) ≤ length names
        → length (cond b (record { name = name; number = n } ∷ entries_from suffix apart (n + 1) names) (entries_from suffix apart (n + 1) names)) ≤ length (name ∷ names)
    chosen true h = omega arith
    chosen false h = omega arith

-- no more files are taken than there are
pub few_inputs : (suffix : List ℕ) (apart : PlainApart) (names : List (List ℕ)) → length (inputs_of suffix apart names) ≤ length names
unfolding inputs_of
few_inputs suffix apart names = omega (arith, length_sorted entry_cmp (entries_from suffix apart 0 names), length_entries suffix apart 0 names)

-- an entry has the name that stands at its number
abbrev pub Stands : List (List ℕ) → Entry → Type 0
Stands names e = slice_get names e.number ≡ Some e.name

stands_inserted : (names : List (List ℕ)) (x : Entry) (ys : List Entry) → Stands names x → AllByRecursion (Stands names) ys → AllByRecursion (Stands names) (inserted entry_cmp x ys)
stands_inserted names x [] h all = (h, tt)
stands_inserted names x (y ∷ ys) h all = chosen (is_lt (entry_cmp y x)) (stands_inserted names x ys h all.1)
  where
    chosen : (b : Bool) → AllByRecursion (Stands names) (inserted entry_cmp x ys) → AllByRecursion (Stands names) (cond b (y ∷ inserted entry_cmp x ys) (x ∷ y ∷ ys))
    chosen true later = (all.0, later)
    chosen false later = (h, all)

stands_sorted : (names : List (List ℕ)) (xs : List Entry) → AllByRecursion (Stands names) xs → AllByRecursion (Stands names) (sorted entry_cmp xs)
stands_sorted names [] all = tt
stands_sorted names (x ∷ xs) all = stands_inserted names x (sorted entry_cmp xs) all.0 (stands_sorted names xs all.1)

stands_entries : (suffix : List ℕ) (apart : PlainApart) (all : List (List ℕ)) (n : ℕ) (names : List (List ℕ)) → ((i : ℕ) → slice_get names i ≡ slice_get all (n + i))
    → AllByRecursion (Stands all) (entries_from suffix apart n names)
stands_entries suffix apart all n [] places = tt
stands_entries suffix apart all n (name ∷ names) places =
    chosen (is_taken suffix apart name) (stands_entries suffix apart all (n + 1) names (λ i. let k : n + suc i ≡ n + 1 + i = omega arith in places (suc i) ∙ ap (slice_get all) k))
  where
    here : slice_get all n ≡ Some name
    here = let k : n + 0 ≡ n = omega arith in ap (slice_get all) (sym k) ∙ sym (places 0)

    chosen : (b : Bool) → AllByRecursion (Stands all) (entries_from suffix apart (n + 1) names)
        → AllByRecursion (Stands all) (cond b (record { name = name; number = n } ∷ entries_from suffix apart (n + 1) names) (entries_from suffix apart (n + 1) names))
    chosen true later = (here, later)
    chosen false later = later

-- each that is taken is one of the folder's
pub inputs_stand : (suffix : List ℕ) (apart : PlainApart) (names : List (List ℕ)) → AllByRecursion (Stands names) (inputs_of suffix apart names)
unfolding inputs_of
inputs_stand suffix apart names =
    stands_sorted names (entries_from suffix apart 0 names) (stands_entries suffix apart names 0 names (λ i. ap (slice_get names) (omega arith)))

pub numbers_of_inputs : (suffix : List ℕ) (apart : PlainApart) (names : List (List ℕ)) → All (λ e. e.number < length names) (inputs_of suffix apart names)
numbers_of_inputs suffix apart names i d below =
    let here = All-from_recursion (Stands names) (inputs_of suffix apart names) (inputs_stand suffix apart names) i d below in
    below_of names (get_or (inputs_of suffix apart names) i d).number (get_or (inputs_of suffix apart names) i d).name here
  where
    below_of : (xs : List (List ℕ)) (n : ℕ) (name : List ℕ) → slice_get xs n ≡ Some name → n < length xs
    below_of [] n name h = absurd cc
    below_of (x ∷ xs) zero name h = omega arith
    below_of (x ∷ xs) (suc n) name h = omega (arith, below_of xs n name h)

-- ---- the names one after another

-- the name at a place stands before those behind it
pub next_name : (names : List (List ℕ)) (i : ℕ) (name : List ℕ) → i < length names → name ≡ get_or names i name → drop i names ≡ name ∷ drop (i + 1) names
next_name names i name below is = rw (add-one i) (drop-cons names i name below ∙ ap (λ (n : List ℕ). n ∷ drop (suc i) names) (sym is))

-- a name that is taken
pub entry_taken : (suffix : List ℕ) (apart : PlainApart) (number : ℕ) (name : List ℕ) (rest : List (List ℕ)) (before : List Entry)
    → is_taken suffix apart name ≡ true
    → (before ++ record { name = name; number = number } ∷ []) ++ entries_from suffix apart (number + 1) rest
    ≡ before ++ entries_from suffix apart number (name ∷ rest)
entry_taken suffix apart number name rest before taken =
    append_assoc before (record { name = name; number = number } ∷ []) (entries_from suffix apart (number + 1) rest) ∙ rw taken refl

-- one that is not
pub entry_left : (suffix : List ℕ) (apart : PlainApart) (number : ℕ) (name : List ℕ) (rest : List (List ℕ)) (before : List Entry)
    → is_taken suffix apart name ≡ false
    → before ++ entries_from suffix apart (number + 1) rest ≡ before ++ entries_from suffix apart number (name ∷ rest)
entry_left suffix apart number name rest before left = rw left refl
