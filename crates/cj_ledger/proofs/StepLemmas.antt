-- Each step of a share keeps the rule of the words.
use Rattle.std.proofs.Common.{◌≡◌, ℕ, zero, suc, ◌+◌, ◌-◌, ◌%◌, ◌^◌, ◌<◌, ◌≤◌, List, [], ◌∷◌, ◌++◌, set, refl, sym, ap, ◌∙◌, subst, arith}
use Rattle.std.specs.Prelude.{slice_index, slice_set, bit_or}
use Rattle.std.specs.List.{sum_by}
use Rattle.std.proofs.lemmas.List.Sums.{sum_by_push}
use mathlib.Core.Option.{some}
use lib.ListN.{get_elem?}
use Rattle.atomic_table.specs.Table.{State, keeps, stepped, Allows, Splits, Joins}
use Rattle.cj_ledger.specs.Counts.{nobody, told_live, told_leaves, told_halts, after_first, after_second, after_split, after_closes, after_halt, less_a_part, cut_off, both}
use Rattle.cj_ledger.specs.Words.{live_from, leaves_from, halts_from, live_of, leaves_of, halts_of, laid, words_of, Fits, Kept, KnowsLive, KnowsLeaves, KnowsHalts}
use Rattle.cj_ledger.specs.declared.count.Count.{Count}
use Rattle.cj_ledger.specs.declared.count.Opening.{Opening}
use Rattle.cj_ledger.specs.declared.why.Why.TheVariants.{Cells, Memory}
use Rattle.cj_ledger.proofs.SumLemmas.{sum_set, sum_same, sum_more, at_most_sum, fits_set, fits_push, alone}

three : {a b c x y z : ℕ} → a ≡ x → b ≡ y → c ≡ z → laid a b c ≡ laid x y z
three p q r = λ i. laid (p i) (q i) (r i)

one_live_more : (r f c : ℕ) → (live_from r f c + 1) % 2 ^ 64 ≡ live_from r (f + 1) c
one_live_more r f c = omega arith

live_less_by : (r f c k : ℕ) → k < 2 ^ 64 → (live_from r f c + (2 ^ 64 - k)) % 2 ^ 64 ≡ live_from r f (c + k)
live_less_by r f c k few = omega (arith, few)

-- one first step and one close leave the live cells as they are
live_kept : (r f c : ℕ) → live_from r f c ≡ live_from r (f + 1) (c + 1)
live_kept r f c = omega arith

one_leaf_more : (r s : ℕ) → (leaves_from r s + 1) % 2 ^ 64 ≡ leaves_from r (s + 1)
one_leaf_more r s = omega arith

after_one : (n m : ℕ) → m ≡ n + 1 → m ≡ suc n
after_one n m e = omega arith

cells_set : (c m d : ℕ) → d ≡ c + 1 → bit_or (halts_from c m) 1 ≡ halts_from d m
cells_set c m d e = set_at c m ∙ ap (λ n. halts_from n m) (sym (after_one c d e))
  where
    set_at : (x y : ℕ) → bit_or (halts_from x y) 1 ≡ halts_from (suc x) y
    set_at zero zero = refl
    set_at zero (suc y) = refl
    set_at (suc x) zero = refl
    set_at (suc x) (suc y) = refl

memory_set : (c m d : ℕ) → d ≡ m + 1 → bit_or (halts_from c m) 2 ≡ halts_from c d
memory_set c m d e = set_at c m ∙ ap (λ n. halts_from c n) (sym (after_one m d e))
  where
    set_at : (x y : ℕ) → bit_or (halts_from x y) 2 ≡ halts_from x (suc y)
    set_at zero zero = refl
    set_at zero (suc y) = refl
    set_at (suc x) zero = refl
    set_at (suc x) (suc y) = refl

two_bits : (c m : ℕ) → halts_from c m < 4
two_bits zero zero = omega arith
two_bits zero (suc m) = omega arith
two_bits (suc c) zero = omega arith
two_bits (suc c) (suc m) = omega arith

some_bit : (c m : ℕ) → 0 < c + m → 0 < halts_from c m
some_bit zero zero any = absurd (omega arith)
some_bit zero (suc m) any = omega arith
some_bit (suc c) zero any = omega arith
some_bit (suc c) (suc m) any = omega arith

-- what a word is after one share's view has changed
module _ (vs : List Count) (id : ℕ) (v w : Count) (at : get_elem? vs id ≡ some v) where
  same : (f : Count → ℕ) → f w ≡ f v → sum_by f vs ≡ sum_by f (set vs id w)
  same f e = sym (sum_same f vs id v w at e)

  more : (f : Count → ℕ) (k : ℕ) → f w ≡ f v + k → sum_by f vs + k ≡ sum_by f (set vs id w)
  more f k e = sym (sum_more f vs id v w k at e)

  pub live_same : w.roots ≡ v.roots → w.firsts ≡ v.firsts → w.closes ≡ v.closes → live_of vs ≡ live_of (set vs id w)
  live_same r f c =
      let p = same (λ u. u.roots) r in
      let q = same (λ u. u.firsts) f in
      let x = same (λ u. u.closes) c in
      λ i. live_from (p i) (q i) (x i)

  pub live_more : w.roots ≡ v.roots → w.firsts ≡ v.firsts + 1 → w.closes ≡ v.closes → (live_of vs + 1) % 2 ^ 64 ≡ live_of (set vs id w)
  live_more r f c =
      let p = same (λ u. u.roots) r in
      let q = more (λ u. u.firsts) 1 f in
      let x = same (λ u. u.closes) c in
      one_live_more (sum_by (λ u. u.roots) vs) (sum_by (λ u. u.firsts) vs) (sum_by (λ u. u.closes) vs) ∙ (λ i. live_from (p i) (q i) (x i))

  pub live_less : (k : ℕ) → k < 2 ^ 64 → w.roots ≡ v.roots → w.firsts ≡ v.firsts → w.closes ≡ v.closes + k → (live_of vs + (2 ^ 64 - k)) % 2 ^ 64 ≡ live_of (set vs id w)
  live_less k few r f c =
      let p = same (λ u. u.roots) r in
      let q = same (λ u. u.firsts) f in
      let x = more (λ u. u.closes) k c in
      live_less_by (sum_by (λ u. u.roots) vs) (sum_by (λ u. u.firsts) vs) (sum_by (λ u. u.closes) vs) k few ∙ (λ i. live_from (p i) (q i) (x i))

  pub live_split : w.roots ≡ v.roots → w.firsts ≡ v.firsts + 1 → w.closes ≡ v.closes + 1 → live_of vs ≡ live_of (set vs id w)
  live_split r f c =
      let p = same (λ u. u.roots) r in
      let q = more (λ u. u.firsts) 1 f in
      let x = more (λ u. u.closes) 1 c in
      live_kept (sum_by (λ u. u.roots) vs) (sum_by (λ u. u.firsts) vs) (sum_by (λ u. u.closes) vs) ∙ (λ i. live_from (p i) (q i) (x i))

  pub leaves_same : w.roots ≡ v.roots → w.seconds ≡ v.seconds → leaves_of vs ≡ leaves_of (set vs id w)
  leaves_same r s =
      let p = same (λ u. u.roots) r in
      let q = same (λ u. u.seconds) s in
      λ i. leaves_from (p i) (q i)

  pub leaves_more : w.roots ≡ v.roots → w.seconds ≡ v.seconds + 1 → (leaves_of vs + 1) % 2 ^ 64 ≡ leaves_of (set vs id w)
  leaves_more r s =
      let p = same (λ u. u.roots) r in
      let q = more (λ u. u.seconds) 1 s in
      one_leaf_more (sum_by (λ u. u.roots) vs) (sum_by (λ u. u.seconds) vs) ∙ (λ i. leaves_from (p i) (q i))

  pub halts_same : w.cells ≡ v.cells → w.memory ≡ v.memory → halts_of vs ≡ halts_of (set vs id w)
  halts_same c m =
      let p = same (λ u. u.cells) c in
      let q = same (λ u. u.memory) m in
      λ i. halts_from (p i) (q i)

  pub halts_cells : w.cells ≡ v.cells + 1 → w.memory ≡ v.memory → bit_or (halts_of vs) 1 ≡ halts_of (set vs id w)
  halts_cells c m =
      let q = same (λ u. u.memory) m in
      cells_set (sum_by (λ u. u.cells) vs) (sum_by (λ u. u.memory) vs) (sum_by (λ u. u.cells) (set vs id w)) (sum_more (λ u. u.cells) vs id v w 1 at c)
      ∙ (λ i. halts_from (sum_by (λ u. u.cells) (set vs id w)) (q i))

  pub halts_memory : w.cells ≡ v.cells → w.memory ≡ v.memory + 1 → bit_or (halts_of vs) 2 ≡ halts_of (set vs id w)
  halts_memory c m =
      let p = same (λ u. u.cells) c in
      memory_set (sum_by (λ u. u.cells) vs) (sum_by (λ u. u.memory) vs) (sum_by (λ u. u.memory) (set vs id w)) (sum_more (λ u. u.memory) vs id v w 1 at m)
      ∙ (λ i. halts_from (p i) (sum_by (λ u. u.memory) (set vs id w)))

-- a step of one share, after which the words are those of the new views
keep : {S : Type 0} (o : Opening) (s : State S Count) (id i n : ℕ) (c : List (ℕ × S)) (v w : Count) → Kept o s → get_elem? s.views id ≡ some v → 0 < v.parts
    → w.parts ≡ v.parts → w.opening ≡ v.opening → w.roots ≡ v.roots → (w.seconds ≤ w.firsts) × (w.firsts ≤ w.seconds + 1) → slice_set s.words i n ≡ words_of (set s.views id w)
    → Kept o (stepped s i n id c w keeps)
keep o s id i n c v w kept at some_part parts opening roots splits is = record {
  words = is;
  parts = sum_same (λ u. u.parts) s.views id v w at parts ∙ kept.parts;
  roots = sum_same (λ u. u.roots) s.views id v w at roots ∙ kept.roots;
  fits = fits_set o s.views id w (record { spent = λ none. absurd (omega arith); knows = λ _. opening ∙ (kept.fits id v at).knows some_part; splits = splits }) kept.fits;
}

module _ {S : Type 0} (o : Opening) (slots id : ℕ) (v : Count) (c : List (ℕ × S)) (some_part : 0 < v.parts) where
  -- the sums are the counts of a share with all parts
  whole_sums : (s : State S Count) → Kept o s → get_elem? s.views id ≡ some v → v.parts ≡ v.opening.shares → (f : Count → ℕ) → f nobody ≡ 0 → sum_by f s.views ≡ f v
  whole_sums s kept at whole f none = alone f o s.views id v none at kept.fits (kept.parts ∙ sym (ap (λ (u : Opening). u.shares) ((kept.fits id v at).knows some_part)) ∙ sym whole)

  pub loads_live : Allows (Kept o) slots id (v, c) 0 (λ n. n) (λ n r. (r ≡ (told_live v n, c)) × KnowsLive v n)
  loads_live s kept homes at small =
      let n = slice_index s.words 0 in
      let w = told_live v n in
      let vs = s.views in
      let is : slice_set s.words 0 n ≡ words_of (set vs id w) =
      ap (λ ws. slice_set ws 0 (slice_index ws 0)) kept.words
      ∙ three (live_same vs id v w at refl refl refl) (leaves_same vs id v w at refl refl) (halts_same vs id v w at refl refl) in
      let knows : KnowsLive v n = λ whole.
      let sums = whole_sums s kept at whole in
      let r = sums (λ u. u.roots) refl in
      let f = sums (λ u. u.firsts) refl in
      let x = sums (λ u. u.closes) refl in
      (sym r ∙ kept.roots ∙ sym (ap (λ (u : Opening). u.roots) ((kept.fits id v at).knows some_part)), ap (λ ws. slice_index ws 0) kept.words ∙ (λ i. live_from (r i) (f i) (x i))) in
      (w, keeps, tt, keep o s id 0 n c v w kept at some_part refl refl refl (kept.fits id v at).splits is, (refl, knows))

  pub loads_leaves : Allows (Kept o) slots id (v, c) 16 (λ n. n) (λ n r. (r ≡ (told_leaves v n, c)) × KnowsLeaves v n)
  loads_leaves s kept homes at small =
      let n = slice_index s.words 16 in
      let w = told_leaves v n in
      let vs = s.views in
      let is : slice_set s.words 16 n ≡ words_of (set vs id w) =
      ap (λ ws. slice_set ws 16 (slice_index ws 16)) kept.words
      ∙ three (live_same vs id v w at refl refl refl) (leaves_same vs id v w at refl refl) (halts_same vs id v w at refl refl) in
      let knows : KnowsLeaves v n = λ whole.
      let sums = whole_sums s kept at whole in
      let r = sums (λ u. u.roots) refl in
      let f = sums (λ u. u.seconds) refl in
      ap (λ ws. slice_index ws 16) kept.words ∙ (λ i. leaves_from (r i) (f i)) in
      (w, keeps, tt, keep o s id 16 n c v w kept at some_part refl refl refl (kept.fits id v at).splits is, (refl, knows))

  pub loads_halts : Allows (Kept o) slots id (v, c) 32 (λ n. n) (λ n r. (r ≡ (told_halts v n, c)) × KnowsHalts v n)
  loads_halts s kept homes at small =
      let n = slice_index s.words 32 in
      let w = told_halts v n in
      let vs = s.views in
      let cells = sum_by (λ u. u.cells) vs in
      let memory = sum_by (λ u. u.memory) vs in
      let is : slice_set s.words 32 n ≡ words_of (set vs id w) =
      ap (λ ws. slice_set ws 32 (slice_index ws 32)) kept.words
      ∙ three (live_same vs id v w at refl refl refl) (leaves_same vs id v w at refl refl) (halts_same vs id v w at refl refl) in
      let here : halts_from cells memory ≡ n = sym (ap (λ ws. slice_index ws 32) kept.words) in
      let mine : v.cells ≤ cells = at_most_sum (λ u. u.cells) vs id v refl at in
      let mine' : v.memory ≤ memory = at_most_sum (λ u. u.memory) vs id v refl at in
      let knows : KnowsHalts v n = (subst (λ m. m < 4) here (two_bits cells memory), λ mine_set. subst (λ m. 0 < m) here (some_bit cells memory (omega (arith, mine_set, mine, mine')))) in
      (w, keeps, tt, keep o s id 32 n c v w kept at some_part refl refl refl (kept.fits id v at).splits is, (refl, knows))

  -- the first step of a split
  pub adds_live : v.firsts ≡ v.seconds → Allows (Kept o) slots id (v, c) 0 (λ n. (n + 1) % 2 ^ 64) (λ n r. r ≡ (after_first v, c))
  adds_live even s kept homes at small =
      let n = (slice_index s.words 0 + 1) % 2 ^ 64 in
      let w = after_first v in
      let vs = s.views in
      let is : slice_set s.words 0 n ≡ words_of (set vs id w) =
      ap (λ ws. slice_set ws 0 ((slice_index ws 0 + 1) % 2 ^ 64)) kept.words
      ∙ three (live_more vs id v w at refl refl refl) (leaves_same vs id v w at refl refl) (halts_same vs id v w at refl refl) in
      (w, keeps, tt, keep o s id 0 n c v w kept at some_part refl refl refl (omega (arith, even), omega (arith, even)) is, refl)

  -- the second step, which only the first can go before
  pub adds_leaf : v.firsts ≡ v.seconds + 1 → Allows (Kept o) slots id (v, c) 16 (λ n. (n + 1) % 2 ^ 64) (λ n r. r ≡ (after_second v ((n + 1) % 2 ^ 64), c))
  adds_leaf odd s kept homes at small =
      let n = (slice_index s.words 16 + 1) % 2 ^ 64 in
      let w = after_second v n in
      let vs = s.views in
      let is : slice_set s.words 16 n ≡ words_of (set vs id w) =
      ap (λ ws. slice_set ws 16 ((slice_index ws 16 + 1) % 2 ^ 64)) kept.words
      ∙ three (live_same vs id v w at refl refl refl) (leaves_more vs id v w at refl refl) (halts_same vs id v w at refl refl) in
      (w, keeps, tt, keep o s id 16 n c v w kept at some_part refl refl refl (omega (arith, odd), omega (arith, odd)) is, refl)

  -- a close and both steps of a split at once
  pub closes_and_splits : v.firsts ≡ v.seconds → Allows (Kept o) slots id (v, c) 16 (λ n. (n + 1) % 2 ^ 64) (λ n r. r ≡ (after_split (after_closes v 1) ((n + 1) % 2 ^ 64), c))
  closes_and_splits even s kept homes at small =
      let n = (slice_index s.words 16 + 1) % 2 ^ 64 in
      let w = after_split (after_closes v 1) n in
      let vs = s.views in
      let is : slice_set s.words 16 n ≡ words_of (set vs id w) =
      ap (λ ws. slice_set ws 16 ((slice_index ws 16 + 1) % 2 ^ 64)) kept.words
      ∙ three (live_split vs id v w at refl refl refl) (leaves_more vs id v w at refl refl) (halts_same vs id v w at refl refl) in
      (w, keeps, tt, keep o s id 16 n c v w kept at some_part refl refl refl (omega (arith, even), omega (arith, even)) is, refl)

  pub closes : (k : ℕ) → k < 2 ^ 64 → Allows (Kept o) slots id (v, c) 0 (λ n. (n + (2 ^ 64 - k)) % 2 ^ 64) (λ n r. r ≡ (after_closes v k, c))
  closes k few s kept homes at small =
      let n = (slice_index s.words 0 + (2 ^ 64 - k)) % 2 ^ 64 in
      let w = after_closes v k in
      let vs = s.views in
      let is : slice_set s.words 0 n ≡ words_of (set vs id w) =
      ap (λ ws. slice_set ws 0 ((slice_index ws 0 + (2 ^ 64 - k)) % 2 ^ 64)) kept.words
      ∙ three (live_less vs id v w at k few refl refl refl) (leaves_same vs id v w at refl refl) (halts_same vs id v w at refl refl) in
      (w, keeps, tt, keep o s id 0 n c v w kept at some_part refl refl refl (kept.fits id v at).splits is, refl)

  pub sets_cells : Allows (Kept o) slots id (v, c) 32 (λ n. bit_or n 1) (λ n r. r ≡ (after_halt Cells v, c))
  sets_cells s kept homes at small =
      let n = bit_or (slice_index s.words 32) 1 in
      let w = after_halt Cells v in
      let vs = s.views in
      let is : slice_set s.words 32 n ≡ words_of (set vs id w) =
      ap (λ ws. slice_set ws 32 (bit_or (slice_index ws 32) 1)) kept.words
      ∙ three (live_same vs id v w at refl refl refl) (leaves_same vs id v w at refl refl) (halts_cells vs id v w at refl refl) in
      (w, keeps, tt, keep o s id 32 n c v w kept at some_part refl refl refl (kept.fits id v at).splits is, refl)

  pub sets_memory : Allows (Kept o) slots id (v, c) 32 (λ n. bit_or n 2) (λ n r. r ≡ (after_halt Memory v, c))
  sets_memory s kept homes at small =
      let n = bit_or (slice_index s.words 32) 2 in
      let w = after_halt Memory v in
      let vs = s.views in
      let is : slice_set s.words 32 n ≡ words_of (set vs id w) =
      ap (λ ws. slice_set ws 32 (bit_or (slice_index ws 32) 2)) kept.words
      ∙ three (live_same vs id v w at refl refl refl) (leaves_same vs id v w at refl refl) (halts_memory vs id v w at refl refl) in
      (w, keeps, tt, keep o s id 32 n c v w kept at some_part refl refl refl (kept.fits id v at).splits is, refl)

-- a share is cut off
pub cuts_off : {S : Type 0} (o : Opening) (id : ℕ) (v : Count) → 1 < v.parts → Splits {S = S} (Kept o) id v (less_a_part v) (cut_off v)
cuts_off o id v two s kept at =
    let vs = s.views in
    let l = less_a_part v in
    let r = cut_off v in
    let now = set vs id l ++ r ∷ [] in
    let old = kept.fits id v at in
    let knows = old.knows (omega (arith, two)) in
    let stays : (f : Count → ℕ) → f l ≡ f v → f r ≡ 0 → sum_by f vs ≡ sum_by f now = λ f a b. let x = sum_set f vs id v l at in let y = sum_by_push f (set vs id l) r in omega (arith, a, b, x, y) in
    let pr = stays (λ u. u.roots) refl refl in
    let pf = stays (λ u. u.firsts) refl refl in
    let ps = stays (λ u. u.seconds) refl refl in
    let pc = stays (λ u. u.closes) refl refl in
    let pa = stays (λ u. u.cells) refl refl in
    let pb = stays (λ u. u.memory) refl refl in
    let parts : sum_by (λ u. u.parts) now ≡ sum_by (λ u. u.parts) vs =
    let x = sum_set (λ (u : Count). u.parts) vs id v l at in let y = sum_by_push (λ (u : Count). u.parts) (set vs id l) r in omega (arith, two, x, y) in
    let left : Fits o l = record { spent = λ none. absurd (omega (arith, two, none)); knows = λ _. knows; splits = old.splits } in
    let right : Fits o r = record { spent = λ none. absurd (omega (arith, none)); knows = λ _. knows; splits = (omega arith, omega arith) } in
    record {
      words = kept.words ∙ three (λ i. live_from (pr i) (pf i) (pc i)) (λ i. leaves_from (pr i) (ps i)) (λ i. halts_from (pa i) (pb i));
      parts = parts ∙ kept.parts;
      roots = sym pr ∙ kept.roots;
      fits = fits_push o (set vs id l) r right (fits_set o vs id l left kept.fits);
    }

-- a share takes in another
pub takes_in : {S : Type 0} (o : Opening) (id : ℕ) (v : Count) (other : ℕ) (w : Count) → 0 < v.parts → v.firsts ≡ v.seconds → w.firsts ≡ w.seconds → Joins {S = S} (Kept o) id v other w (both v w) nobody
takes_in o id v other w some_part even even' s kept at apart there =
    let vs = s.views in
    let b = both v w in
    let mid = set vs id b in
    let now = set mid other nobody in
    let knows = (kept.fits id v at).knows some_part in
    let stays : (f : Count → ℕ) → f b ≡ f v + f w → f nobody ≡ 0 → sum_by f vs ≡ sum_by f now = λ f p q. let x = sum_set f vs id v b at in let y = sum_set f mid other w nobody there in omega (arith, p, q, x, y) in
    let pr = stays (λ u. u.roots) refl refl in
    let pf = stays (λ u. u.firsts) refl refl in
    let ps = stays (λ u. u.seconds) refl refl in
    let pc = stays (λ u. u.closes) refl refl in
    let pa = stays (λ u. u.cells) refl refl in
    let pb = stays (λ u. u.memory) refl refl in
    let pp = stays (λ u. u.parts) refl refl in
    let taken : Fits o b = record { spent = λ none. absurd (omega (arith, some_part, none)); knows = λ _. knows; splits = (omega (arith, even, even'), omega (arith, even, even')) } in
    let empty : Fits o nobody = record { spent = λ _. refl; knows = λ any. absurd (omega (arith, any)); splits = (omega arith, omega arith) } in
    record {
      words = kept.words ∙ three (λ i. live_from (pr i) (pf i) (pc i)) (λ i. leaves_from (pr i) (ps i)) (λ i. halts_from (pa i) (pb i));
      parts = sym pp ∙ kept.parts;
      roots = sym pr ∙ kept.roots;
      fits = fits_set o mid other nobody empty (fits_set o vs id b taken kept.fits);
    }
