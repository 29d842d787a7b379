-- Joined boxes: what they touch, and that they stay where the current boxes of the partners do.
use Rattle.std.proofs.Common.{◌≡◌, ℕ, ◌+◌, ◌<◌, ◌≤◌, Bool, true, false, cond, List, [], ◌∷◌, map, Option, Some, None, refl, sym, ap, ◌∙◌, subst}
use Rattle.std.specs.Prelude.{◌&&◌, ◌||◌, not, IsSomeAnd}
use Rattle.std.specs.List.{list_all, range_with_len}
use Rattle.std.proofs.lemmas.List.Folds.{list_all-append}
use Rattle.cj_interval.proofs.ListLemmas.{Each, Each-weaker, Each-range, each_from_map, each_from_list_all}
use Rattle.cj_interval.proofs.RangeLemmas.{range_more, each_in_range}
use Rattle.cj_case.specs.PlainProblems.{threshold_between}
use Rattle.cj_case.specs.Boxes.{PlainBox}
use Rattle.cj_bezier.specs.SlotBoxes.{both_touch}
use Rattle.cj_blocks.specs.Blocks.{partner_of, touches_only_as, touches_as_own, joined_box}
use Rattle.cj_blocks.specs.BoxRows.{round_all}
use Rattle.cj_blocks.proofs.RoundLemmas.{LiesIn, round_holds, touches_more}

pub list_all_same : {X : Type 0} (p q : X → Bool) (xs : List X) → Each (λ x. p x ≡ q x) xs → list_all p xs ≡ list_all q xs
list_all_same p q [] same = refl
list_all_same p q (x ∷ xs) same = let here = same.0 in let rest = list_all_same p q xs same.1 in λ i. here i && rest i

-- ---- what a joined box is

-- a box of an object joins its boxes in these slots: each is there and lies in it, and of the partners it touches only what they touch
pub record Joins (thr : ℕ) (sizes : List ℕ) (pairs : List (ℕ × ℕ)) (own current : ℕ → ℕ → Option PlainBox) (object first count : ℕ) (area : PlainBox) : Type 0 where
  pub holds : (slot : ℕ) → first ≤ slot → slot < first + count → IsSomeAnd (own object slot) (λ x. LiesIn x area)
  pub touches : Each (λ pair. (slot : ℕ) → first ≤ slot → slot < first + count
      → touches_only_as (threshold_between thr sizes pair.0 pair.1) (Some area) (own object slot) (current (partner_of object pair) slot) ≡ true) pairs

pub joins : (thr : ℕ) (sizes : List ℕ) (pairs : List (ℕ × ℕ)) (own current : ℕ → ℕ → Option PlainBox) (object first count : ℕ) (area : PlainBox)
    → joined_box thr sizes pairs own current object (range_with_len first count) ≡ Some area → Joins thr sizes pairs own current object first count area
unfolding joined_box
joins thr sizes pairs own current object first count area is = go (list_all (touches_as_own thr sizes own current object slots round) pairs) refl is
  where
    slots : List ℕ
    slots = range_with_len first count

    round : Option PlainBox
    round = round_all (map (own object) slots)

    test : Option PlainBox → ℕ × ℕ → Bool
    test r = touches_as_own thr sizes own current object slots r

    go : (b : Bool) → list_all (test round) pairs ≡ b → cond b round None ≡ Some area → Joins thr sizes pairs own current object first count area
    go false all none = absurd cc
    go true all some = record {
      holds = each_in_range (λ slot. IsSomeAnd (own object slot) (λ x. LiesIn x area)) first count
          (each_from_map (λ b. IsSomeAnd b (λ x. LiesIn x area)) (own object) slots (round_holds (map (own object) slots) area some));
      touches =
          Each-weaker (λ pair. test (Some area) pair ≡ true) (λ pair. (slot : ℕ) → first ≤ slot → slot < first + count
          → touches_only_as (threshold_between thr sizes pair.0 pair.1) (Some area) (own object slot) (current (partner_of object pair) slot) ≡ true)
          (λ pair passes. each_in_range (λ slot. touches_only_as (threshold_between thr sizes pair.0 pair.1) (Some area) (own object slot) (current (partner_of object pair) slot) ≡ true) first count
          (each_from_list_all (λ slot. touches_only_as (threshold_between thr sizes pair.0 pair.1) (Some area) (own object slot) (current (partner_of object pair) slot)) slots passes))
          pairs
          (each_from_list_all (test (Some area)) pairs (subst (λ (r : Option PlainBox). list_all (test r) pairs ≡ true) some all));
    }

-- a box that touches only what the own one does, and in which that lies, touches just the same
pub touch_alike : (thr : ℕ) (area : PlainBox) (own other : Option PlainBox) → IsSomeAnd own (λ x. LiesIn x area) → touches_only_as thr (Some area) own other ≡ true
    → both_touch thr (Some area) other ≡ both_touch thr own other
touch_alike thr area None other lies only = absurd lies
touch_alike thr area (Some a) other lies only = go (both_touch thr (Some area) other) (both_touch thr (Some a) other) (touches_more thr a area other lies) only
  where
    go : (b c : Bool) → (c ≡ true → b ≡ true) → (not b || c) ≡ true → b ≡ c
    go true true up h = refl
    go true false up h = absurd cc
    go false true up h = let e : false ≡ true = up refl in absurd cc
    go false false up h = refl

-- ---- other current boxes

-- the current boxes of the partners are the same
pub joined_same : (thr : ℕ) (sizes : List ℕ) (pairs : List (ℕ × ℕ)) (own c d : ℕ → ℕ → Option PlainBox) (object first count : ℕ)
    → Each (λ pair. (slot : ℕ) → first ≤ slot → slot < first + count → c (partner_of object pair) slot ≡ d (partner_of object pair) slot) pairs
    → joined_box thr sizes pairs own c object (range_with_len first count) ≡ joined_box thr sizes pairs own d object (range_with_len first count)
unfolding joined_box
joined_same thr sizes pairs own c d object first count same =
    let slots = range_with_len first count in
    let round = round_all (map (own object) slots) in
    ap (λ (b : Bool). cond b round None)
    (list_all_same (touches_as_own thr sizes own c object slots round) (touches_as_own thr sizes own d object slots round) pairs
    (Each-weaker (λ pair. (slot : ℕ) → first ≤ slot → slot < first + count → c (partner_of object pair) slot ≡ d (partner_of object pair) slot)
    (λ pair. touches_as_own thr sizes own c object slots round pair ≡ touches_as_own thr sizes own d object slots round pair)
    (λ pair alike. list_all_same (λ slot. touches_only_as (threshold_between thr sizes pair.0 pair.1) round (own object slot) (c (partner_of object pair) slot))
    (λ slot. touches_only_as (threshold_between thr sizes pair.0 pair.1) round (own object slot) (d (partner_of object pair) slot)) slots
    (Each-range (λ slot. touches_only_as (threshold_between thr sizes pair.0 pair.1) round (own object slot) (c (partner_of object pair) slot)
    ≡ touches_only_as (threshold_between thr sizes pair.0 pair.1) round (own object slot) (d (partner_of object pair) slot)) first count
    (λ slot low high. ap (touches_only_as (threshold_between thr sizes pair.0 pair.1) round (own object slot)) (alike slot low high)))) pairs same))

-- ---- how it is decided

-- where one box touches what it may not, there is no joined box
pub not_joined : (thr : ℕ) (sizes : List ℕ) (pairs : List (ℕ × ℕ)) (own current : ℕ → ℕ → Option PlainBox) (object : ℕ) (slots : List ℕ) (round : Option PlainBox) → round ≡ round_all (map (own object) slots)
    → list_all (touches_as_own thr sizes own current object slots round) pairs ≡ false → joined_box thr sizes pairs own current object slots ≡ None
unfolding joined_box
not_joined thr sizes pairs own current object slots round is fails =
    ap (λ (b : Bool). cond b (round_all (map (own object) slots)) None) (ap (λ (r : Option PlainBox). list_all (touches_as_own thr sizes own current object slots r) pairs) (sym is) ∙ fails)

-- where none does, it is the box round all
pub all_joined : (thr : ℕ) (sizes : List ℕ) (pairs : List (ℕ × ℕ)) (own current : ℕ → ℕ → Option PlainBox) (object : ℕ) (slots : List ℕ) (round : Option PlainBox) → round ≡ round_all (map (own object) slots)
    → list_all (touches_as_own thr sizes own current object slots round) pairs ≡ true → joined_box thr sizes pairs own current object slots ≡ round
unfolding joined_box
all_joined thr sizes pairs own current object slots round is passes =
    ap (λ (b : Bool). cond b (round_all (map (own object) slots)) None) (ap (λ (r : Option PlainBox). list_all (touches_as_own thr sizes own current object slots r) pairs) (sym is) ∙ passes) ∙ sym is

pub none_joined : (thr : ℕ) (sizes : List ℕ) (pairs : List (ℕ × ℕ)) (own current : ℕ → ℕ → Option PlainBox) (object : ℕ) (slots : List ℕ) → None ≡ round_all (map (own object) slots)
    → joined_box thr sizes pairs own current object slots ≡ None
unfolding joined_box
none_joined thr sizes pairs own current object slots is =
    ap (λ (r : Option PlainBox). cond (list_all (touches_as_own thr sizes own current object slots r) pairs) r None) (sym is)
    ∙ same (list_all (touches_as_own thr sizes own current object slots None) pairs)
  where
    same : (b : Bool) → cond {A = Option PlainBox} b None None ≡ None
    same true = refl
    same false = refl

-- the test of a pair by its threshold and its partner
pub pair_test : (thr between partner : ℕ) (sizes : List ℕ) (own current : ℕ → ℕ → Option PlainBox) (object : ℕ) (slots : List ℕ) (round : Option PlainBox) (pair : ℕ × ℕ)
    → between ≡ threshold_between thr sizes pair.0 pair.1 → partner ≡ partner_of object pair
    → list_all (λ slot. touches_only_as between round (own object slot) (current partner slot)) slots ≡ touches_as_own thr sizes own current object slots round pair
pair_test thr between partner sizes own current object slots round pair same other = λ i. list_all (λ slot. touches_only_as (same i) round (own object slot) (current (other i) slot)) slots

-- one number more passes a test
pub one_passes : (test : ℕ → Bool) (a n j : ℕ) → a + n ≡ j → list_all test (range_with_len a n) ≡ true → test j ≡ true → list_all test (range_with_len a (n + 1)) ≡ true
one_passes test a n j at before here =
    ap (list_all test) (range_more a n) ∙ list_all-append test (range_with_len a n) ((a + n) ∷ [])
    ∙ (let last : test (a + n) ≡ true = ap test at ∙ here in λ i. before i && (last i && true))
