-- The pairs that are kept, one after another and row by row.
use Rattle.std.proofs.Common.{◌≡◌, ℕ, zero, suc, ◌+◌, ◌-◌, ◌<◌, ◌≤◌, ◌++◌, Bool, true, false, List, [], ◌∷◌, length, get_or, take, filter, Option, Some, None, refl, sym, ap, ◌∙◌, arith, length-append}
use Rattle.std.specs.Prelude.{not}
use Rattle.std.specs.List.{flat_map, range_with_len, sum}
use Rattle.std.proofs.lemmas.List.{length-map, take_all}
use Rattle.std.proofs.lemmas.List.FromFn.{length-range_with_len}
use Rattle.std.proofs.lemmas.List.Sums.{count_by-le-length, length-filter, sum_by_more}
use Rattle.cj_case.proofs.PairLemmas.{pair_taken, pair_left, pairs_from, row_taken, row_to}
use Rattle.cj_case.specs.Pairs.{pairs_of}
use Rattle.cj_case.specs.declared.shells.Shell.{Shell}
use Rattle.cj_bezier.specs.Shells.{are_kept, are_parted}

-- ---- two shells

pub both_kept : (t between : ℕ) (x y : Option Shell) (s u : Shell) (r : Bool) → x ≡ Some s → y ≡ Some u → t ≡ between → r ≡ are_parted s u t → not r ≡ are_kept between x y
both_kept t between x y s u r first second same told = ap not told ∙ (λ i. are_kept (same i) (sym first i) (sym second i))

pub first_without : (t : ℕ) (x y : Option Shell) → x ≡ None → false ≡ are_kept t x y
first_without t x y none = sym (ap (λ (o : Option Shell). are_kept t o y) none)

pub second_without : (t : ℕ) (x y : Option Shell) → y ≡ None → false ≡ are_kept t x y
second_without t None y none = refl
second_without t (Some s) y none = sym (ap (λ (o : Option Shell). are_kept t (Some s) o) none)

-- ---- how many there are

-- one more of a row, and one that is not kept
pub counted_more : (p : ℕ × ℕ → Bool) (a b n : ℕ) → a < b → p (a, b) ≡ true → n ≡ length (filter p (row_to a b)) → n + 1 ≡ length (filter p (row_to a (b + 1)))
counted_more p a b n lt passes so_far =
    let more = ap length (pair_taken p a b [] (filter p (row_to a b)) lt passes refl) in
    let one = length-append (filter p (row_to a b)) ((a, b) ∷ []) in
    omega (arith, more, one, so_far)

pub counted_same : (p : ℕ × ℕ → Bool) (a b n : ℕ) → a < b → p (a, b) ≡ false → n ≡ length (filter p (row_to a b)) → n ≡ length (filter p (row_to a (b + 1)))
counted_same p a b n lt fails so_far = so_far ∙ ap length (pair_left p a b [] (filter p (row_to a b)) lt fails refl)

-- one row more
pub rows_counted : (p : ℕ × ℕ → Bool) (n a old row : ℕ) → old ≡ length (filter p (flat_map (pairs_from n) (range_with_len 0 a))) → row ≡ length (filter p (pairs_from n a))
    → old + row ≡ length (filter p (flat_map (pairs_from n) (range_with_len 0 (a + 1))))
rows_counted p n a old row before here =
    let done = filter p (flat_map (pairs_from n) (range_with_len 0 a)) in
    let more = ap length (row_taken p n a done (done ++ filter p (pairs_from n a)) refl refl) in
    let both = length-append done (filter p (pairs_from n a)) in
    omega (arith, more, both, before, here)

-- an object has no more pairs than there are objects
pub row_few : (p : ℕ × ℕ → Bool) (n a : ℕ) → length (filter p (pairs_from n a)) ≤ n
row_few p n a =
    let all = length-filter p (pairs_from n a) in
    let some = count_by-le-length p (pairs_from n a) in
    let row = length-map (range_with_len (a + 1) (n - (a + 1))) (λ (b : ℕ). let q : ℕ × ℕ = (a, b) in q) in
    let size = length-range_with_len (a + 1) (n - (a + 1)) in
    omega (arith, all, some, row, size)

-- the rows of all objects together
pub rows_summed : (p : ℕ × ℕ → Bool) (n : ℕ) (counts : List ℕ) → length counts ≡ n → ((a d : ℕ) → a < n → get_or counts a d ≡ length (filter p (pairs_from n a)))
    → sum counts ≡ length (filter p (pairs_of n))
rows_summed p n counts many each = ap sum (sym (take_all n counts (omega (arith, many)))) ∙ up_to n (omega arith)
  where
    up_to : (k : ℕ) → k ≤ n → sum (take k counts) ≡ length (filter p (flat_map (pairs_from n) (range_with_len 0 k)))
    up_to zero le = refl
    up_to (suc k) le =
        let lt : k < length counts = omega (arith, many, le) in
        let more = sum_by_more (λ count. count) counts k 0 lt in
        let here = each k 0 (omega arith) in
        let row = rows_counted p n k (sum (take k counts)) (get_or counts k 0) (up_to k (omega arith)) here in
        let next : k + 1 ≡ suc k = omega arith in
        ap (λ i. sum (take i counts)) (sym next) ∙ more ∙ row ∙ ap (λ i. length (filter p (flat_map (pairs_from n) (range_with_len 0 i)))) next
