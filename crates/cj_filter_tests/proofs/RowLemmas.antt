-- Boxes in a row: each meets eight buckets of its own.
use Rattle.std.proofs.Common.{◌≡◌, ℕ, zero, suc, ◌+◌, ◌≤◌, Bool, true, false, cond, List, [], ◌∷◌, ◌++◌, length, get_or, map, filter, Option, Some, None, refl, sym, ap, ◌∙◌, arith}
use Rattle.std.specs.Prelude.{◌&&◌, nat_eq, nat_lt, option_map, slice_index, replicate}
use Rattle.std.specs.List.{flat_map, range_with_len}
use Rattle.std.proofs.lemmas.Bool.{and_parts}
use Rattle.std.proofs.lemmas.Bool.Decides.{nat_tests}
use Rattle.std.proofs.lemmas.List.{length-map, map_push}
use Rattle.std.proofs.lemmas.List.Sums.{sum_by-cons, sum_by-le}
use Rattle.cj_interval.proofs.RangeLemmas.{range_more}
use Rattle.cj_case.specs.declared.axis_box.AxisBox.{AxisBox}
use Rattle.cj_case.specs.Boxes.{PlainBox, plain_box, plain_boxes}
use Rattle.cj_grid.specs.declared.entries.Entry.{Entry}
use Rattle.cj_grid.specs.Buckets.{PlainBlock, numbers_of, block_of, block_in, entered_by, is_wide_one, entries_of, wide_of, entered_in, bucket_squares, step_bound}
use Rattle.cj_filter_tests.specs.Rows.{box_in_row, boxes_in_row}

-- ---- entries of which no two are in one bucket

abbrev rising : List Entry → Bool
rising [] = true
rising (e ∷ []) = true
rising (e ∷ d ∷ es) = nat_lt e.bucket d.bucket && rising (d ∷ es)

differ : (a b c : ℕ) → a ≤ b → nat_lt b c ≡ true → (nat_eq c a ≡ false) × (a ≤ c)
differ a b c le lt = (grind (arith, nat_tests), grind (arith, nat_tests))

no_more : (c : Bool) (n : ℕ) → c ≡ false → n ≡ 0 → cond c 1 0 + n ≡ 0
no_more c n is none = rw (is, none) refl

none_later : (e : Entry) (es : List Entry) → rising (e ∷ es) ≡ true → (bucket : ℕ) → bucket ≤ e.bucket → entered_in bucket es ≡ 0
none_later e [] h bucket le = refl
none_later e (d ∷ es) h bucket le =
    let parts = and_parts (nat_lt e.bucket d.bucket) (rising (d ∷ es)) h in
    let other = differ bucket e.bucket d.bucket le parts.0 in
    sum_by-cons (λ (x : Entry). cond (nat_eq x.bucket bucket) 1 0) d es ∙ no_more (nat_eq d.bucket bucket) (entered_in bucket es) other.0 (none_later d es parts.1 bucket other.1)

tail_rising : (e : Entry) (es : List Entry) → rising (e ∷ es) ≡ true → rising es ≡ true
tail_rising e [] h = refl
tail_rising e (d ∷ es) h = (and_parts (nat_lt e.bucket d.bucket) (rising (d ∷ es)) h).1

few : (es : List Entry) → rising es ≡ true → (bucket : ℕ) → entered_in bucket es ≤ 1
few [] h bucket = omega arith
few (e ∷ es) h bucket =
    decided (nat_eq e.bucket bucket) (entered_in bucket es) (entered_in bucket (e ∷ es)) (sum_by-cons (λ (x : Entry). cond (nat_eq x.bucket bucket) 1 0) e es)
    (λ is. none_later e es h bucket (at_most e.bucket bucket is)) (few es (tail_rising e es h) bucket)
  where
    at_most : (b bucket : ℕ) → nat_eq b bucket ≡ true → bucket ≤ b
    at_most b bucket is = grind (arith, nat_tests)

    decided : (c : Bool) (n total : ℕ) → total ≡ cond c 1 0 + n → (c ≡ true → n ≡ 0) → n ≤ 1 → total ≤ 1
    decided true n total is none least = let nothing = none refl in omega arith
    decided false n total is none least = omega arith

squares_few : (es : List Entry) → rising es ≡ true → bucket_squares es ≤ length es
squares_few es h = let all = sum_by-le (λ (e : Entry). entered_in e.bucket es) 1 es (λ k d lt. few es h (get_or es k d).bucket) in omega arith

-- ---- blocks by what boxes reach

abbrev block_by : ℕ → ℕ → PlainBox → PlainBlock
block_by thr size r = record { x = numbers_of thr size r.x; y = numbers_of thr size r.y; z = numbers_of thr size r.z }

block_is : (thr size : ℕ) (boxes : List (Option AxisBox)) (k : ℕ) → option_map (block_of thr size) (get_or boxes k None) ≡ option_map (block_by thr size) (get_or (plain_boxes boxes) k None)
block_is thr size [] k = refl
block_is thr size (None ∷ boxes) zero = refl
block_is thr size (Some b ∷ boxes) zero = refl
block_is thr size (b ∷ boxes) (suc k) = block_is thr size boxes k

zeros : (n k : ℕ) → slice_index (replicate n 0) k ≡ 0
zeros zero k = refl
zeros (suc n) zero = refl
zeros (suc n) (suc k) = zeros n k

-- the blocks of boxes that reach so far
abbrev block_at : ℕ → List (Option PlainBox) → ℕ → Option PlainBlock
block_at thr rs k = option_map (block_by thr 0) (get_or rs k None)

each_block : (thr n : ℕ) (boxes : List (Option AxisBox)) (rs : List (Option PlainBox)) → plain_boxes boxes ≡ rs → (k : ℕ) → block_in thr (replicate n 0) boxes k ≡ block_at thr rs k
each_block thr n boxes rs same k = ap (λ (s : ℕ). option_map (block_of thr s) (get_or boxes k None)) (zeros n k) ∙ block_is thr 0 boxes k ∙ ap (λ (bs : List (Option PlainBox)). option_map (block_by thr 0) (get_or bs k None)) same

as_many : (boxes : List (Option AxisBox)) (rs : List (Option PlainBox)) → plain_boxes boxes ≡ rs → length boxes ≡ length rs
as_many boxes rs same = sym (length-map boxes (option_map plain_box)) ∙ ap (λ (bs : List (Option PlainBox)). length bs) same

entries_are : (thr n : ℕ) (boxes : List (Option AxisBox)) (rs : List (Option PlainBox)) → plain_boxes boxes ≡ rs
    → entries_of thr (replicate n 0) boxes ≡ flat_map (λ k. entered_by k (block_at thr rs k)) (range_with_len 0 (length rs))
unfolding entries_of
entries_are thr n boxes rs same = λ i. flat_map (λ k. entered_by k (each_block thr n boxes rs same k i)) (range_with_len 0 (as_many boxes rs same i))

wide_are : (thr n : ℕ) (boxes : List (Option AxisBox)) (rs : List (Option PlainBox)) → plain_boxes boxes ≡ rs
    → wide_of thr (replicate n 0) boxes ≡ filter (λ k. is_wide_one (block_at thr rs k)) (range_with_len 0 (length rs))
unfolding wide_of
wide_are thr n boxes rs same = λ i. filter (λ k. is_wide_one (each_block thr n boxes rs same k i)) (range_with_len 0 (as_many boxes rs same i))

-- ---- fifty in a row

row_rises : rising (flat_map (λ k. entered_by k (block_at 5_000_000_000_000 (boxes_in_row 50) k)) (range_with_len 0 50)) ≡ true
row_rises = refl

row_length : length (flat_map (λ k. entered_by k (block_at 5_000_000_000_000 (boxes_in_row 50) k)) (range_with_len 0 50)) ≡ 400
row_length = refl

none_wide : length (filter (λ k. is_wide_one (block_at 5_000_000_000_000 (boxes_in_row 50) k)) (range_with_len 0 50)) ≡ 0
none_wide = refl

pub row_bound : (boxes : List (Option AxisBox)) → plain_boxes boxes ≡ boxes_in_row 50 → step_bound 5_000_000_000_000 (replicate 50 0) boxes ≤ 400
unfolding step_bound
row_bound boxes same =
    let entries = entries_are 5_000_000_000_000 50 boxes (boxes_in_row 50) same in
    let wide = ap (λ (ws : List ℕ). length ws) (wide_are 5_000_000_000_000 50 boxes (boxes_in_row 50) same) ∙ none_wide in
    let rises : rising (entries_of 5_000_000_000_000 (replicate 50 0) boxes) ≡ true = ap rising entries ∙ row_rises in
    let size : length (entries_of 5_000_000_000_000 (replicate 50 0) boxes) ≡ 400 = ap (λ (es : List Entry). length es) entries ∙ row_length in
    let squares = squares_few (entries_of 5_000_000_000_000 (replicate 50 0) boxes) rises in
    rw wide (omega arith)

pub row_few : (boxes : List (Option AxisBox)) → plain_boxes boxes ≡ boxes_in_row 50 → length boxes ≡ 50
row_few boxes same = as_many boxes (boxes_in_row 50) same

-- one box more
pub row_more : (k : ℕ) → boxes_in_row k ++ Some (box_in_row k) ∷ [] ≡ boxes_in_row (k + 1)
row_more k =
    let at : 0 + k ≡ k = omega arith in
    ap (λ (j : ℕ). boxes_in_row k ++ Some (box_in_row j) ∷ []) (sym at) ∙ sym (map_push (λ (j : ℕ). Some (box_in_row j)) (range_with_len 0 k) (0 + k))
    ∙ ap (map (λ (j : ℕ). Some (box_in_row j))) (sym (range_more 0 k))
