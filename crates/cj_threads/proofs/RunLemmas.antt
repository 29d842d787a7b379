-- Runs and ranges: one more, one that is cut in two, and what comes of them.
use Rattle.std.proofs.Common.{◌≡◌, ℕ, suc, ◌+◌, ◌-◌, ◌<◌, ◌≤◌, inl, inr, None, List, [], ◌∷◌, ◌++◌, length, map, take, drop, get_or, refl, sym, ap, subst, ◌∙◌, arith}
use Rattle.std.specs.Borrow.{Bor}
use Rattle.std.specs.Global.{Vec}
use Rattle.std.specs.Prelude.{All}
use Rattle.std.specs.List.{flat_map, slice_get}
use Rattle.std.specs.List.Sorted.{IsPermutation}
use Rattle.std.proofs.lemmas.List.{append-nil, append_assoc, map-append, take-append-drop, take_all, take_more}
use Rattle.std.proofs.lemmas.List.Concat.{flat_map-append}
use Rattle.std.proofs.lemmas.List.Elements.{All-append, All-nil}
use Rattle.std.proofs.lemmas.Option.{slice_get_cases}
use Rattle.std.proofs.lemmas.List.Sorted.{IsPermutation-append, IsPermutation-append_comm, IsPermutation-append_left, IsPermutation-append_right, IsPermutation-refl, IsPermutation-trans}
use Rattle.cj_interval.proofs.ListLemmas.{All-from_each}
use Rattle.cj_base.specs.declared.tick.Tick.{Tick}
use Rattle.cj_case.specs.declared.pair.Pair.{Pair}
use Rattle.cj_case.specs.PairOrder.{AreInOrderBy}
use Rattle.cj_threads.specs.Runs.{elements_of, elements_in, AreMerged, IsMerged}

-- what holds of all that are left holds of the one that is taken, and of the others
pub each_taken : {Y : Type 0} (P : Y → Type 0) (y : Y) (left rest : List Y) → left ≡ y ∷ rest → All P left → P y × All P rest
each_taken {Y} P y left rest is all =
    let now = subst (All P) is all in
    (now 0 y (omega arith), λ i d lt. now (suc i) d (omega (arith, lt)))

module _ {X : Type 0} where
  -- of some lists, and of one more
  pub pushed : {Y : Type 0} (items : Y → List X) (ys : List Y) (y : Y) → flat_map items (ys ++ y ∷ []) ≡ flat_map items ys ++ items y
  pushed items ys y = flat_map-append items ys (y ∷ []) ∙ ap (λ (xs : List X). flat_map items ys ++ xs) (append-nil (items y))

  -- of the first lists, and of one more
  pub items_more : {Y : Type 0} (items : Y → List X) (ys : List Y) (i : ℕ) (y : Y) → i < length ys → y ≡ get_or ys i y → flat_map items (take (i + 1) ys) ≡ flat_map items (take i ys) ++ items y
  items_more {Y} items ys i y lt is = ap (flat_map items) (take_more ys i y lt ∙ ap (λ (z : Y). take i ys ++ z ∷ []) (sym is)) ∙ pushed items (take i ys) y

  -- the first lists behind one another, and one more behind them
  pub items_grown : {Y : Type 0} (items : Y → List X) (ys : List Y) (i : ℕ) (y : Y) (old new more : List X) → i < length ys → y ≡ get_or ys i y
      → new ≡ old ++ more → more ≡ items y → old ≡ flat_map items (take i ys) → new ≡ flat_map items (take (i + 1) ys)
  items_grown items ys i y old new more lt is grown same so_far =
      grown ∙ ap (λ (xs : List X). old ++ xs) same ∙ ap (λ (xs : List X). xs ++ items y) so_far ∙ sym (items_more items ys i y lt is)

  -- when all lists are behind one another, each element is there as often
  pub items_all : {Y : Type 0} (items : Y → List X) (ys : List Y) (i : ℕ) (all : List X) → length ys ≤ i → all ≡ flat_map items (take i ys)
      → IsPermutation (flat_map items ys) all
  items_all items ys i all end so_far =
      subst (IsPermutation (flat_map items ys)) (sym (so_far ∙ ap (flat_map items) (take_all i ys end))) (IsPermutation-refl (flat_map items ys))

  -- a list is taken from those that are left, and put behind the others
  pub list_taken : {Y : Type 0} (items : Y → List X) (y : Y) (left rest : List Y) (old new more all : List X) → left ≡ y ∷ rest → new ≡ old ++ more → more ≡ items y
      → old ++ flat_map items left ≡ all → new ++ flat_map items rest ≡ all
  list_taken {Y} items y left rest old new more all is grown same so_far =
      ap (λ (xs : List X). xs ++ flat_map items rest) (grown ∙ ap (λ (xs : List X). old ++ xs) same) ∙ append_assoc old (items y) (flat_map items rest)
      ∙ ap (λ (ys : List Y). old ++ flat_map items ys) (sym is) ∙ so_far

  -- when no list is left, each element is there as often
  pub all_taken : {Y : Type 0} (items : Y → List X) (left : List Y) (old all : List X) → left ≡ [] → old ++ flat_map items left ≡ all → IsPermutation all old
  all_taken {Y} items left old all none so_far =
      subst (λ (xs : List X). IsPermutation xs old) (sym (append-nil old) ∙ ap (λ (ys : List Y). old ++ flat_map items ys) (sym none) ∙ so_far) (IsPermutation-refl old)

  -- the first lists as slices, and one more
  pub slices_more : {Y : Type 0} (items : Y → List X) (ys : List Y) (i : ℕ) (y : Y) (old new : List (Bor (List X))) (slice : Bor (List X)) → i < length ys
      → y ≡ get_or ys i y
      → new ≡ old ++ slice ∷ [] → slice.now ≡ items y → map (λ run. run.now) old ≡ map items (take i ys)
      → map (λ run. run.now) new ≡ map items (take (i + 1) ys)
  slices_more {Y} items ys i y old new slice lt is grown same so_far =
      ap (map (λ run. run.now)) grown ∙ map-append (λ run. run.now) old (slice ∷ []) ∙ ap (λ (xs : List (List X)). xs ++ slice.now ∷ []) so_far
      ∙ ap (λ (xs : List X). map items (take i ys) ++ xs ∷ []) same ∙ sym (map-append items (take i ys) (y ∷ []))
      ∙ ap (map items) (sym (take_more ys i y lt ∙ ap (λ (z : Y). take i ys ++ z ∷ []) (sym is)))

  -- both parts of a list that is split
  pub whole : (i : ℕ) (xs front back : List X) → front ≡ take i xs → back ≡ drop i xs → xs ≡ front ++ back
  whole i xs front back f b = sym (take-append-drop i xs) ∙ sym (ap (λ (l : List X). l ++ back) f ∙ ap (λ (l : List X). take i xs ++ l) b)

  elements_push : (runs : List (Bor (List X))) (run : Bor (List X)) → elements_of (runs ++ run ∷ []) ≡ elements_of runs ++ run.now
  elements_push runs run = pushed (λ (r : Bor (List X)). r.now) runs run

  -- the parts in the middle change places
  exchanged : (l h b a : List X) → IsPermutation ((l ++ h) ++ (b ++ a)) ((l ++ b) ++ (h ++ a))
  exchanged l h b a =
      subst (λ (xs : List X). IsPermutation xs ((l ++ b) ++ (h ++ a))) (sym (regrouped l h b a))
      (subst (IsPermutation (l ++ ((h ++ b) ++ a))) (sym (regrouped l b h a))
      (IsPermutation-append_right l ((h ++ b) ++ a) ((b ++ h) ++ a) (IsPermutation-append_left a (h ++ b) (b ++ h) (IsPermutation-append_comm h b))))
    where
      regrouped : (l h b a : List X) → (l ++ h) ++ (b ++ a) ≡ l ++ ((h ++ b) ++ a)
      regrouped l h b a = append_assoc l h (b ++ a) ∙ ap (λ (xs : List X). l ++ xs) (sym (append_assoc h b a))

  -- runs that are cut, and one more
  pub cut_more : (i : ℕ) (runs low high : List (Bor (List X))) (run below above : Bor (List X)) → i < length runs → run ≡ get_or runs i run
      → run.now ≡ below.now ++ above.now → IsPermutation (elements_of (take i runs)) (elements_of low ++ elements_of high)
      → IsPermutation (elements_of (take (i + 1) runs)) (elements_of (low ++ below ∷ []) ++ elements_of (high ++ above ∷ []))
  cut_more i runs low high run below above lt is parts so_far =
      let l = elements_of low in
      let h = elements_of high in
      let b = below.now in
      let a = above.now in
      let old = elements_of (take i runs) in
      let all : elements_of (take (i + 1) runs) ≡ old ++ (b ++ a) = items_more (λ (r : Bor (List X)). r.now) runs i run lt is ∙ ap (λ (xs : List X). old ++ xs) parts in
      subst (λ (xs : List X). IsPermutation xs (elements_of (low ++ below ∷ []) ++ elements_of (high ++ above ∷ []))) (sym all)
      (subst (λ (xs : List X). IsPermutation (old ++ (b ++ a)) (xs ++ elements_of (high ++ above ∷ []))) (sym (elements_push low below))
      (subst (λ (xs : List X). IsPermutation (old ++ (b ++ a)) ((l ++ b) ++ xs)) (sym (elements_push high above))
      (IsPermutation-trans (old ++ (b ++ a)) ((l ++ h) ++ (b ++ a)) ((l ++ b) ++ (h ++ a))
      (IsPermutation-append_left (b ++ a) old (l ++ h) so_far)
      (exchanged l h b a))))

  -- a list without a last element, and one without a first
  pub ends_nowhere : (xs : List X) → None ≡ slice_get xs (length xs - 1) → xs ≡ []
  ends_nowhere [] none = refl
  ends_nowhere (x ∷ xs) none = elim (slice_get_cases (x ∷ xs) (length (x ∷ xs) - 1)).1 [
    | inl w ↦ absurd cc
    | inr w ↦ absurd (omega arith)
  ]

  pub begins_nowhere : (xs : List X) → None ≡ slice_get xs 0 → xs ≡ []
  begins_nowhere [] none = refl
  begins_nowhere (x ∷ xs) none = absurd cc

  -- lists and slices of the same elements
  pub same_elements : {Y : Type 0} (slices : List (Bor (List X))) (lists : List Y) (items : Y → List X) → map (λ run. run.now) slices ≡ map items lists
      → elements_of slices ≡ flat_map items lists
  same_elements slices lists items same = concat_map slices (λ run. run.now) ∙ ap (flat_map (λ (xs : List X). xs)) same ∙ sym (concat_map lists items)
    where
      concat_map : {Z : Type 0} (zs : List Z) (f : Z → List X) → flat_map f zs ≡ flat_map (λ (xs : List X). xs) (map f zs)
      concat_map [] f = refl
      concat_map (z ∷ zs) f = ap (λ (xs : List X). f z ++ xs) (concat_map zs f)

  -- ---- ranges

  -- from what is left a range is taken
  pub range_more : (whole : List X) (ranges : List (Vec (Bor (List X)))) (range : Vec (Bor (List X))) (left rest : List (Bor (List X))) →
      IsPermutation whole (elements_in ranges ++ elements_of left) → IsPermutation (elements_of left) (elements_of range.items ++ elements_of rest) →
      IsPermutation whole (elements_in (ranges ++ range ∷ []) ++ elements_of rest)
  range_more whole ranges range left rest so_far parts =
      let r = elements_in ranges in
      let b = elements_of range.items in
      let a = elements_of rest in
      IsPermutation-trans whole (r ++ elements_of left) (elements_in (ranges ++ range ∷ []) ++ a) so_far
      (subst (IsPermutation (r ++ elements_of left)) (sym (ap (λ (xs : List X). xs ++ a) (pushed (λ (r : Vec (Bor (List X))). elements_of r.items) ranges range) ∙ append_assoc r b a))
      (IsPermutation-append_right r (elements_of left) (b ++ a) parts))

-- ---- what comes of ranges

module _ {X : Type 0} (place : X → Pair × Tick) where
  pub merged_append : (some others : List (Vec (Bor (List X)))) (front back : List (Vec X)) → AreMerged place some front → AreMerged place others back
      → AreMerged place (some ++ others) (front ++ back)
  merged_append some others front back one two = record {
    elements = subst (λ (xs : List X). IsPermutation xs (flat_map (λ list. list.items) (front ++ back))) (sym (flat_map-append (λ (r : Vec (Bor (List X))). elements_of r.items) some others))
        (subst (IsPermutation (elements_in some ++ elements_in others)) (sym (flat_map-append (λ (l : Vec X). l.items) front back))
        (IsPermutation-append (elements_in some) (flat_map (λ list. list.items) front) (elements_in others) (flat_map (λ list. list.items) back) one.elements two.elements));
    ordered = All-append (λ (list : Vec X). AreInOrderBy place list.items) front back one.ordered two.ordered;
  }

  one_merged : (range : Vec (Bor (List X))) (list : Vec X) → IsPermutation (elements_of range.items) list.items → AreInOrderBy place list.items → AreMerged place (range ∷ []) (list ∷ [])
  one_merged range list elements ordered = record {
    elements = subst (λ (xs : List X). IsPermutation xs (list.items ++ [])) (sym (append-nil (elements_of range.items)))
        (subst (IsPermutation (elements_of range.items)) (sym (append-nil list.items)) elements);
    ordered = All-from_each (λ (l : Vec X). AreInOrderBy place l.items) (list ∷ []) (ordered, tt);
  }

  -- of ranges that are merged each
  pub merged_each : (ranges : List (Vec (Bor (List X)))) (lists : List (Vec X)) → length lists ≡ length ranges
      → ((i : ℕ) (list : Vec X) (range : Vec (Bor (List X))) → i < length ranges → IsMerged place (get_or ranges i range) (get_or lists i list)) → AreMerged place ranges lists
  merged_each [] [] many each = record { elements = IsPermutation-refl []; ordered = All-nil (λ (list : Vec X). AreInOrderBy place list.items) }
  merged_each [] (list ∷ lists) many each = absurd (omega (arith, many))
  merged_each (range ∷ ranges) [] many each = absurd (omega (arith, many))
  merged_each (range ∷ ranges) (list ∷ lists) many each =
      let first = each 0 list range (omega arith) in
      merged_append (range ∷ []) ranges (list ∷ []) lists (one_merged range list first.elements first.ordered)
      (merged_each ranges lists (omega (arith, many)) (λ i l r lt. each (suc i) l r (omega (arith, lt))))
