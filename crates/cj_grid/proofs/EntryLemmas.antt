-- How lists grow number by number, and how many entries stand in a bucket.
use Rattle.std.proofs.Common.{◌≡◌, ℕ, ◌+◌, ◌-◌, ◌*◌, ◌<◌, ◌≤◌, Bool, true, false, cond, List, [], ◌∷◌, ◌++◌, length, get_or, map, filter, take, Option, sym, ap, ◌∙◌, arith, append_assoc, append-nil}
use Rattle.std.specs.Prelude.{nat_eq, count_by, is_some}
use Rattle.std.specs.List.{flat_map, range_with_len, sum_by}
use Rattle.std.specs.List.Sorted.{IsPermutation}
use Rattle.std.proofs.lemmas.Bool.{eq-eqb}
use Rattle.std.proofs.lemmas.List.{get_or_default}
use Rattle.std.proofs.lemmas.List.Elements.{filter-append}
use Rattle.std.proofs.lemmas.List.FromFn.{map-range_with_len_more}
use Rattle.std.proofs.lemmas.List.Sorted.{sum_by-IsPermutation}
use Rattle.std.proofs.lemmas.List.Sums.{count_by_more_yes, sum_by-take-le}
use Rattle.cj_interval.proofs.RangeLemmas.{range_more, flat_map-range_more}
use Rattle.cj_case.specs.declared.axis_box.AxisBox.{AxisBox}
use Rattle.cj_grid.specs.declared.entries.Entry.{Entry}
use Rattle.cj_grid.specs.Buckets.{entered_in, bucket_squares, entries_of, wide_of, step_bound}
use Rattle.cj_grid.specs.Found.{entry_at}

-- ---- number by number

-- before the first number
pub none_mapped : {A : Type 0} (f : ℕ → A) (first : ℕ) (old : List A) → old ≡ old ++ map f (range_with_len first (first - first))
none_mapped f first old = let e : first - first ≡ 0 = omega arith in rw e (sym (append-nil old))

pub none_joined : {A : Type 0} (f : ℕ → List A) (first : ℕ) (old : List A) → old ≡ old ++ flat_map f (range_with_len first (first - first))
none_joined f first old = let e : first - first ≡ 0 = omega arith in rw e (sym (append-nil old))

-- one number more
pub one_mapped : {A : Type 0} (f : ℕ → A) (first k : ℕ) (old now new : List A) → first ≤ k → now ≡ old ++ map f (range_with_len first (k - first)) → new ≡ now ++ f k ∷ []
    → new ≡ old ++ map f (range_with_len first (k + 1 - first))
one_mapped {A} f first k old now new le so_far more =
    let n : k + 1 - first ≡ k - first + 1 = omega arith in
    more ∙ ap (λ (xs : List A). xs ++ f k ∷ []) so_far ∙ append_assoc old (map f (range_with_len first (k - first))) (f k ∷ [])
    ∙ ap (λ (xs : List A). old ++ xs) (sym (map-range_with_len_more f first (k - first) k (omega arith)))
    ∙ ap (λ (j : ℕ). old ++ map f (range_with_len first j)) (sym n)

pub one_joined : {A : Type 0} (f : ℕ → List A) (first k : ℕ) (old now new : List A) → first ≤ k → now ≡ old ++ flat_map f (range_with_len first (k - first)) → new ≡ now ++ f k
    → new ≡ old ++ flat_map f (range_with_len first (k + 1 - first))
one_joined {A} f first k old now new le so_far more =
    let n : k + 1 - first ≡ k - first + 1 = omega arith in
    more ∙ ap (λ (xs : List A). xs ++ f k) so_far ∙ append_assoc old (flat_map f (range_with_len first (k - first))) (f k)
    ∙ ap (λ (xs : List A). old ++ xs) (sym (flat_map-range_more f first (k - first) k (omega arith)))
    ∙ ap (λ (j : ℕ). old ++ flat_map f (range_with_len first j)) (sym n)

-- one number more, counted from 0
pub one_more : {A : Type 0} (f : ℕ → List A) (k : ℕ) (now new : List A) → now ≡ flat_map f (range_with_len 0 k) → new ≡ now ++ f k → new ≡ flat_map f (range_with_len 0 (k + 1))
one_more {A} f k now new so_far more = more ∙ ap (λ (xs : List A). xs ++ f k) so_far ∙ sym (flat_map-range_more f 0 k k (omega arith))

-- the numbers that pass a test, with one more
filter_range : (p : ℕ → Bool) (k : ℕ) (c : Bool) → p k ≡ c → filter p (range_with_len 0 k) ++ cond c (k ∷ []) [] ≡ filter p (range_with_len 0 (k + 1))
filter_range p k c is =
    let at : 0 + k ≡ k = omega arith in
    ap (λ (b : Bool). filter p (range_with_len 0 k) ++ cond b (k ∷ []) []) (sym is)
    ∙ ap (λ (j : ℕ). filter p (range_with_len 0 k) ++ filter p (j ∷ [])) (sym at)
    ∙ sym (filter-append p (range_with_len 0 k) ((0 + k) ∷ [])) ∙ ap (filter p) (sym (range_more 0 k))

pub one_passes : (p : ℕ → Bool) (k : ℕ) (now new : List ℕ) → p k ≡ true → now ≡ filter p (range_with_len 0 k) → new ≡ now ++ k ∷ [] → new ≡ filter p (range_with_len 0 (k + 1))
one_passes p k now new passes so_far more = more ∙ ap (λ (xs : List ℕ). xs ++ k ∷ []) so_far ∙ filter_range p k true passes

pub one_fails : (p : ℕ → Bool) (k : ℕ) (now : List ℕ) → p k ≡ false → now ≡ filter p (range_with_len 0 k) → now ≡ filter p (range_with_len 0 (k + 1))
one_fails p k now fails so_far = so_far ∙ sym (append-nil (filter p (range_with_len 0 k))) ∙ filter_range p k false fails

-- ---- entries by place

pub entry_read : (entries : List Entry) (i : ℕ) (e : Entry) → i < length entries → e ≡ get_or entries i e → e ≡ entry_at entries i
entry_read entries i e lt is = is ∙ get_or_default entries i e (record { bucket = 0; object = 0 }) lt

-- ---- steps

-- one entry more of a bucket
pub entered_more : (bucket : ℕ) (entries : List Entry) (i : ℕ) → i < length entries → (entry_at entries i).bucket ≡ bucket → entered_in bucket (take (i + 1) entries) ≡ entered_in bucket (take i entries) + 1
entered_more bucket entries i lt is = count_by_more_yes (λ e. nat_eq e.bucket bucket) entries i (record { bucket = 0; object = 0 }) lt (eq-eqb (entry_at entries i).bucket bucket is)

pub entered_few : (bucket : ℕ) (entries : List Entry) (i : ℕ) → entered_in bucket (take i entries) ≤ entered_in bucket entries
entered_few bucket entries i = sum_by-take-le (λ e. cond (nat_eq e.bucket bucket) 1 0) entries i

-- the squares of sorted entries
pub same_squares : (old new : List Entry) → IsPermutation old new → bucket_squares new ≡ bucket_squares old
same_squares old new moved =
    let each : (e : Entry) → entered_in e.bucket new ≡ entered_in e.bucket old = λ e. sum_by-IsPermutation (λ d. cond (nat_eq d.bucket e.bucket) 1 0) old new moved in
    (λ i. sum_by (λ e. each e i) new) ∙ sum_by-IsPermutation (λ e. entered_in e.bucket old) old new moved

-- the bound by sorted entries
pub bound_is : (thr : ℕ) (sizes : List ℕ) (boxes : List (Option AxisBox)) (entries : List Entry) (wide : List ℕ) → IsPermutation (entries_of thr sizes boxes) entries → wide ≡ wide_of thr sizes boxes
    → bucket_squares entries + length wide * count_by is_some boxes ≡ step_bound thr sizes boxes
unfolding step_bound
bound_is thr sizes boxes entries wide moved is = λ i. same_squares (entries_of thr sizes boxes) entries moved i + length (is i) * count_by is_some boxes
