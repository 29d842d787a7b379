-- The smallest box round several: it holds each of them, and touches all that one of them touches.
use Rattle.std.proofs.Common.{◌≡◌, ℕ, zero, suc, ◌+◌, ◌<◌, ◌≤◌, true, List, [], ◌∷◌, map, Option, Some, None, refl, sym, ap, ◌∙◌, subst, inl, inr, arith}
use Rattle.std.specs.Prelude.{◌&&◌, ℤ, pos, ◌+ℤ◌, ◌≤ℤ◌, int_le, IsSomeAnd}
use Rattle.std.specs.List.{fold, range_with_len}
use Rattle.std.proofs.Math.Bool.{and_comm}
use Rattle.std.proofs.lemmas.Bool.{and_from, and_parts, cases_eq}
use Rattle.std.proofs.lemmas.Int.{ints, clamps}
use Rattle.std.proofs.lemmas.List.FromFn.{map-range_with_len_more}
use Rattle.std.proofs.lemmas.List.Folds.{fold_stays}
use Rattle.std.proofs.lemmas.List.Sums.{fold_push}
use Rattle.cj_interval.proofs.ListLemmas.{Each}
use Rattle.cj_interval.proofs.IntegerLemmas.{le_test}
use Rattle.cj_case.specs.Boxes.{PlainBox, Reach}
use Rattle.cj_bezier.specs.SlotBoxes.{both_touch, reach_touches, reaches_touch, round_reaches, round_two}
use Rattle.cj_blocks.specs.BoxRows.{round_both, round_all}

-- ---- what lies in what

-- a reach lies in another
pub record ReachesIn (a b : Reach) : Type 0 where
  pub low : b.least ≤ℤ a.least
  pub high : a.most ≤ℤ b.most

-- a box lies in another
pub record LiesIn (a b : PlainBox) : Type 0 where
  pub x : ReachesIn a.x b.x
  pub y : ReachesIn a.y b.y
  pub z : ReachesIn a.z b.z

own_reach : (a : Reach) → ReachesIn a a
own_reach a = record { low = omega (arith, ints); high = omega (arith, ints) }

pub lies_in_itself : (a : PlainBox) → LiesIn a a
lies_in_itself a = record { x = own_reach a.x; y = own_reach a.y; z = own_reach a.z }

further : (a b c : Reach) → ReachesIn a b → ReachesIn b c → ReachesIn a c
further a b c p q = let l = p.low in let l' = q.low in let h = p.high in let h' = q.high in record { low = omega (arith, ints); high = omega (arith, ints) }

lies_further : (a b c : PlainBox) → LiesIn a b → LiesIn b c → LiesIn a c
lies_further a b c p q = record { x = further a.x b.x c.x p.x q.x; y = further a.y b.y c.y p.y q.y; z = further a.z b.z c.z p.z q.z }

first_reach : (a b : Reach) → ReachesIn a (round_reaches a b)
first_reach a b = record { low = omega (arith, ints, clamps); high = omega (arith, ints, clamps) }

second_reach : (a b : Reach) → ReachesIn b (round_reaches a b)
second_reach a b = record { low = omega (arith, ints, clamps); high = omega (arith, ints, clamps) }

first_in : (a b : PlainBox) → LiesIn a (round_two a b)
first_in a b = record { x = first_reach a.x b.x; y = first_reach a.y b.y; z = first_reach a.z b.z }

second_in : (a b : PlainBox) → LiesIn b (round_two a b)
second_in a b = record { x = second_reach a.x b.x; y = second_reach a.y b.y; z = second_reach a.z b.z }

-- ---- round all of a list

-- nothing is round what is not there
pub none_stays : (bs : List (Option PlainBox)) → fold round_both None bs ≡ None
none_stays bs = fold_stays round_both None (λ b. refl) bs

none_behind : (o b : Option PlainBox) → b ≡ None → round_both o b ≡ None
none_behind None b is = refl
none_behind (Some a) b is = rw is refl

all_lie : (r : PlainBox) (bs : List (Option PlainBox)) (all : PlainBox) → fold round_both (Some r) bs ≡ Some all → LiesIn r all × Each (λ b. IsSomeAnd b (λ x. LiesIn x all)) bs
all_lie r [] all is = let same : r ≡ all = cc in (subst (λ (b : PlainBox). LiesIn r b) same (lies_in_itself r), tt)
all_lie r (None ∷ bs) all is = let none = none_stays bs in absurd cc
all_lie r (Some b ∷ bs) all is =
    let rest = all_lie (round_two r b) bs all is in
    (lies_further r (round_two r b) all (first_in r b) rest.0, (lies_further b (round_two r b) all (second_in r b) rest.0, rest.1))

-- each box of a list is there and lies in the one round all
pub round_holds : (bs : List (Option PlainBox)) (all : PlainBox) → round_all bs ≡ Some all → Each (λ b. IsSomeAnd b (λ x. LiesIn x all)) bs
unfolding round_all
round_holds [] all is = absurd cc
round_holds (None ∷ bs) all is = let none = none_stays bs in absurd cc
round_holds (Some b ∷ bs) all is = all_lie b bs all is

-- the box round those of some numbers, of one, and of one number more
pub round_one : (f : ℕ → Option PlainBox) (a : ℕ) → round_all (map f (range_with_len a 1)) ≡ f a
unfolding round_all
round_one f a = refl

pub round_more : (f : ℕ → Option PlainBox) (a n j : ℕ) → a + (n + 1) ≡ j → round_all (map f (range_with_len a (suc (suc n)))) ≡ round_both (round_all (map f (range_with_len a (suc n)))) (f j)
unfolding round_all
round_more f a n j at =
    let one : suc n ≡ n + 1 = omega arith in
    ap (λ (k : ℕ). fold round_both (f a) (map f (range_with_len (a + 1) k))) one
    ∙ ap (fold round_both (f a)) (map-range_with_len_more f (a + 1) n j (omega arith))
    ∙ fold_push round_both (f a) (map f (range_with_len (a + 1) n)) (f j)

-- there is none round all where one is missing
pub round_missing : (f : ℕ → Option PlainBox) (a n k : ℕ) → a ≤ k → k < a + n → f k ≡ None → round_all (map f (range_with_len a n)) ≡ None
unfolding round_all
round_missing f a zero k low high none = absurd (omega arith)
round_missing f a (suc n) k low high none = elim (cases_eq a k) [
  | inl same ↦
      let here : f a ≡ None = subst (λ (j : ℕ). f j ≡ None) (sym same) none in
      ap (λ (x : Option PlainBox). fold round_both x (map f (range_with_len (a + 1) n))) here ∙ none_stays (map f (range_with_len (a + 1) n))
  | inr other ↦ behind (f a) (a + 1) n (omega arith) (omega arith)
]
  where
    behind : (o : Option PlainBox) (b m : ℕ) → b ≤ k → k < b + m → fold round_both o (map f (range_with_len b m)) ≡ None
    behind o b zero low high = absurd (omega arith)
    behind o b (suc m) low high = elim (cases_eq b k) [
      | inl same ↦
          let here : f b ≡ None = subst (λ (j : ℕ). f j ≡ None) (sym same) none in
          ap (λ (x : Option PlainBox). fold round_both x (map f (range_with_len (b + 1) m))) (none_behind o (f b) here) ∙ none_stays (map f (range_with_len (b + 1) m))
      | inr other ↦ behind (round_both o (f b)) (b + 1) m (omega arith) (omega arith)
    ]

-- ---- what a box touches

le_is : (x y : ℤ) → int_le x y ≡ true → x ≤ℤ y
le_is x y h = grind (arith, ints)

reach_more : (thr : ℕ) (a r b : Reach) → ReachesIn a r → reach_touches thr a b ≡ true → reach_touches thr r b ≡ true
reach_more thr a r b lies h =
    let both = and_parts (int_le a.least (b.most +ℤ pos thr)) (int_le b.least (a.most +ℤ pos thr)) h in
    let one = le_is a.least (b.most +ℤ pos thr) both.0 in
    let other = le_is b.least (a.most +ℤ pos thr) both.1 in
    let low = lies.low in
    let high = lies.high in
    and_from (int_le r.least (b.most +ℤ pos thr)) (int_le b.least (r.most +ℤ pos thr)) (le_test r.least (b.most +ℤ pos thr) (omega (arith, ints)))
    (le_test b.least (r.most +ℤ pos thr) (omega (arith, ints)))

box_more : (thr : ℕ) (a r b : PlainBox) → LiesIn a r → reaches_touch thr a b ≡ true → reaches_touch thr r b ≡ true
box_more thr a r b lies h =
    let outer = and_parts (reach_touches thr a.x b.x && reach_touches thr a.y b.y) (reach_touches thr a.z b.z) h in
    let inner = and_parts (reach_touches thr a.x b.x) (reach_touches thr a.y b.y) outer.0 in
    and_from (reach_touches thr r.x b.x && reach_touches thr r.y b.y) (reach_touches thr r.z b.z)
    (and_from (reach_touches thr r.x b.x) (reach_touches thr r.y b.y) (reach_more thr a.x r.x b.x lies.x inner.0) (reach_more thr a.y r.y b.y lies.y inner.1))
    (reach_more thr a.z r.z b.z lies.z outer.1)

-- a box touches all that a box in it touches
pub touches_more : (thr : ℕ) (a r : PlainBox) (other : Option PlainBox) → LiesIn a r → both_touch thr (Some a) other ≡ true → both_touch thr (Some r) other ≡ true
touches_more thr a r None lies h = absurd cc
touches_more thr a r (Some b) lies h = box_more thr a r b lies h

reaches_swap : (thr : ℕ) (a b : PlainBox) → reaches_touch thr a b ≡ reaches_touch thr b a
reaches_swap thr a b =
    let x = and_comm (int_le a.x.least (b.x.most +ℤ pos thr)) (int_le b.x.least (a.x.most +ℤ pos thr)) in
    let y = and_comm (int_le a.y.least (b.y.most +ℤ pos thr)) (int_le b.y.least (a.y.most +ℤ pos thr)) in
    let z = and_comm (int_le a.z.least (b.z.most +ℤ pos thr)) (int_le b.z.least (a.z.most +ℤ pos thr)) in
    λ i. x i && y i && z i

-- two boxes touch whichever is named first
pub touch_swap : (thr : ℕ) (a b : Option PlainBox) → both_touch thr a b ≡ both_touch thr b a
touch_swap thr None None = refl
touch_swap thr None (Some b) = refl
touch_swap thr (Some a) None = refl
touch_swap thr (Some a) (Some b) = reaches_swap thr a b
