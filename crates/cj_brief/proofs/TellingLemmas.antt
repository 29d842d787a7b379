-- The leaves that are told, root by root in a list for each slot: one list behind another they are those of the roots by slot.
use Rattle.std.proofs.Common.{◌≡◌, ℕ, zero, suc, ◌+◌, ◌<◌, ◌≤◌, ◌^◌, inl, inr, Bool, true, false, not, cond, eqb, List, [], ◌∷◌, ◌++◌, length, map, filter, take, drop, get_or, replicate, set, Some, None, refl, sym, ap, subst, ◌∙◌, arith, append-nil, length-append}
use Rattle.std.specs.Prelude.{position, nat_lt, All}
use Rattle.std.specs.Global.{Vec}
use Rattle.std.specs.List.{flat_map, list_all, position_or_len, range_with_len}
use Rattle.std.proofs.lemmas.Bool.{cases_eq, eqb-true, eq-eqb}
use Rattle.std.proofs.lemmas.Bool.Decides.{nat_tests}
use Rattle.std.proofs.lemmas.List.{drop_all, drop_more, get_or-map, length-map, map-append, map-set, map_push, take_all, take_more}
use Rattle.std.proofs.lemmas.List.Concat.{flat_map-append}
use Rattle.std.proofs.lemmas.List.Elements.{filter-append}
use Rattle.std.proofs.lemmas.List.Folds.{list_all-map}
use Rattle.cj_interval.proofs.ListLemmas.{Each, Each-always, Each-range, Each-weaker, All-from_each, each_from_map, flat_map_alike, flat_map-flat_map}
use Rattle.cj_case.specs.PlainProblems.{PlainProblem}
use Rattle.cj_case.specs.Pairs.{pairs_of}
use Rattle.cj_case.specs.Cells.{PlainCell, plain_cell, plain_cells}
use Rattle.cj_case.specs.Slots.{slot_count, slot_first, slot_last, slot_of}
use Rattle.cj_case.specs.declared.cell.Cell.{Cell}
use Rattle.cj_case.specs.declared.kind.Kind.TheVariants.{Far}
use Rattle.cj_case.specs.declared.leaf.Leaf.{Leaf}
use Rattle.cj_case.specs.Leaves.{PlainLeaf, plain_leaf, plain_leaves, same_kind}
use Rattle.cj_case.proofs.SlotLemmas.{slot_exists}
use Rattle.cj_hermite.specs.Roots.{roots_by_slot, roots_in, roots_in_slot, roots_of, slots_of}
use Rattle.cj_hermite.proofs.RootLemmas.{IsRoot, IsRootOf, Each-between, Each-roots}
use Rattle.cj_bezier.specs.Candidates.{is_candidate}
use Rattle.cj_bezier.specs.RootLeaves.{is_far_throughout, leaves_of_root, leaves_of_roots, told_of_root}
use Rattle.cj_bezier.specs.Tiles.{Tile}
use Rattle.cj_bezier.specs.ToldLeaves.{told_by, told_leaves}
use Rattle.cj_cert.specs.Accepted.{IsSupported}
use Rattle.cj_cert.proofs.ListedLemmas.{AreAllInTime}
use Rattle.cj_cert.proofs.WrittenLemmas.{root_tile}
use Rattle.cj_brief.specs.Telling.{EndsAt, IsListed, plain_lists, told_at}

-- ---- where the leaves of a root end

-- leaves that tile ticks: the last one ends at the last tick, and no other does
ends_of_tile : (P : PlainLeaf → Type 0) (a b lo hi : ℕ) (ss : List PlainLeaf) → lo ≤ hi → Tile P a b lo hi ss → EndsAt hi ss
ends_of_tile P a b lo hi [] le tile = absurd (omega (arith, tile))
ends_of_tile P a b lo hi (s ∷ ss) le tile = elim (cases_eq s.last hi) [
  | inl same ↦ inl (same, none ss tile.1.1 same)
  | inr other ↦ let leaf = tile.1.0 in inr (other, ends_of_tile P a b (s.last + 1) hi ss (omega (arith, leaf.to, other)) tile.1.1)
]
  where
    none : (ts : List PlainLeaf) → Tile P a b (s.last + 1) hi ts → s.last ≡ hi → ts ≡ []
    none [] rest same = refl
    none (t ∷ ts) rest same = let leaf = rest.1.0 in absurd (omega (arith, leaf.from, leaf.some, leaf.to))

-- each root of a case
root_listed : (case : PlainProblem) → AreAllInTime case → 10 ^ 9 ≤ case.threshold → (r : PlainCell) → IsRootOf case r → IsListed case r
root_listed case time big r is =
    let root = is.root in
    record {
      slot = slot_exists case.first case.last r.first root.from (omega (arith, root.some, root.to));
      ends = ends_of_tile (IsSupported case) r.a r.b r.first r.last (leaves_of_root case r) root.some (root_tile case r time big is);
    }

pub roots_listed : (case : PlainProblem) (roots : List Cell) → AreAllInTime case → 10 ^ 9 ≤ case.threshold → plain_cells roots ≡ roots_of (is_candidate case) case
    → All (λ root. IsListed case (plain_cell root)) roots
roots_listed case roots time big same =
    All-from_each (λ root. IsListed case (plain_cell root)) roots
    (each_from_map (IsListed case) plain_cell roots
    (subst (Each (IsListed case)) (sym same)
    (Each-weaker (IsRootOf case) (IsListed case) (root_listed case time big) (roots_of (is_candidate case) case) (Each-roots (is_candidate case) case))))

-- ---- how many leaves there are up to the first that ends at a tick

abbrev pub ends : ℕ → Leaf → Bool
ends last leaf = eqb leaf.cell.last.micros last

-- before it stand all leaves of the root but one
pub end_place : (own rest : List PlainLeaf) (last : ℕ) (leaves : List Leaf) → EndsAt last own → plain_leaves leaves ≡ own ++ rest → suc (position_or_len (ends last) leaves) ≡ length own
end_place [] rest last leaves at same = absurd at
end_place (s ∷ ss) rest last [] at same = absurd cc
end_place (s ∷ ss) rest last (l ∷ ls) at same = go (ends last l) refl at (λ more. end_place ss rest last ls more (ap (drop 1) same))
  where
    here : s.last ≡ l.cell.last.micros
    here = sym (ap (λ (ts : List PlainLeaf). (get_or ts 0 s).last) same)

    place : (b : Bool) → ends last l ≡ b → position_or_len (ends last) (l ∷ ls) ≡ cond (not b) (1 + position_or_len (ends last) ls) 0
    place b is = ap (λ (c : Bool). cond (not c) (1 + position_or_len (ends last) ls) 0) is

    go : (b : Bool) → ends last l ≡ b → EndsAt last (s ∷ ss) → (EndsAt last ss → suc (position_or_len (ends last) ls) ≡ length ss) → suc (position_or_len (ends last) (l ∷ ls)) ≡ length (s ∷ ss)
    go true is (inl both) later = let none = ap length both.1 in let at_once = place true is in omega (arith, none, at_once)
    go true is (inr both) later = absurd (both.0 (here ∙ eqb-true l.cell.last.micros last is))
    go false is (inl both) later = let yes : ends last l ≡ true = eq-eqb l.cell.last.micros last (sym here ∙ both.0) in absurd cc
    go false is (inr both) later = let more = later both.1 in let behind = place false is in omega (arith, more, behind)

found_at : {X : Type 0} (p : X → Bool) (xs : List X) (i : ℕ) → position p xs ≡ Some i → (position_or_len p xs ≡ i) × (i < length xs)
found_at p xs i h = decided (nat_lt (position_or_len p xs) (length xs)) refl h
  where
    decided : (b : Bool) → nat_lt (position_or_len p xs) (length xs) ≡ b → cond b (Some (position_or_len p xs)) None ≡ Some i → (position_or_len p xs ≡ i) × (i < length xs)
    decided true below is =
        let same : position_or_len p xs ≡ i = cc in
        let lower : position_or_len p xs < length xs = grind (arith, nat_tests) in
        (same, subst (λ (k : ℕ). k < length xs) same lower)
    decided false below is = absurd cc

pub found_within : (leaves : List Leaf) (last at : ℕ) → position (ends last) leaves ≡ Some at → at < length leaves
found_within leaves last at is = (found_at (ends last) leaves at is).1

found_nowhere : {X : Type 0} (p : X → Bool) (xs : List X) → position p xs ≡ None → length xs ≤ position_or_len p xs
found_nowhere p xs h = decided (nat_lt (position_or_len p xs) (length xs)) refl h
  where
    decided : (b : Bool) → nat_lt (position_or_len p xs) (length xs) ≡ b → cond b (Some (position_or_len p xs)) None ≡ None → length xs ≤ position_or_len p xs
    decided true below is = absurd cc
    decided false below is = grind (arith, nat_tests)

pub count_found : (leaves : List Leaf) (last at : ℕ) (own rest : List PlainLeaf) → position (ends last) leaves ≡ Some at → EndsAt last own → plain_leaves leaves ≡ own ++ rest → at + 1 ≡ length own
count_found leaves last at own rest is ends_at same =
    let place = (found_at (ends last) leaves at is).0 in
    let count = end_place own rest last leaves ends_at same in
    omega (arith, place, count)

-- there is one
pub count_missed : (leaves : List Leaf) (last : ℕ) (own rest : List PlainLeaf) → position (ends last) leaves ≡ None → EndsAt last own → plain_leaves leaves ≡ own ++ rest → ⊥
count_missed leaves last own rest none ends_at same =
    let past = found_nowhere (ends last) leaves none in
    let count = end_place own rest last leaves ends_at same in
    let whole = ap length same in
    omega (arith, past, count, whole, length-map leaves plain_leaf, length-append own rest)

-- ---- one root more

-- the leaves of the roots from a place on begin with those of the root there
pub roots_on : (case : PlainProblem) (roots : List Cell) (at : ℕ) (root : Cell) → at < length roots → root ≡ get_or roots at root
    → leaves_of_roots case (plain_cells (drop at roots)) ≡ leaves_of_root case (plain_cell root) ++ leaves_of_roots case (plain_cells (drop (at + 1) roots))
unfolding leaves_of_roots
roots_on case roots at root lt is =
    ap (λ (cells : List Cell). leaves_of_roots case (plain_cells cells)) (drop_more roots at root lt)
    ∙ ap (λ (cell : Cell). leaves_of_root case (plain_cell cell) ++ leaves_of_roots case (plain_cells (drop (at + 1) roots))) (sym is)

-- as many leaves as a root has, and those behind them
cut_behind : (leaves : List Leaf) (own rest : List PlainLeaf) → plain_leaves leaves ≡ own ++ rest
    → (plain_leaves (take (length own) leaves) ≡ own) × (plain_leaves (drop (length own) leaves) ≡ rest)
cut_behind leaves [] rest same = (refl, same)
cut_behind [] (s ∷ own) rest same = absurd cc
cut_behind (l ∷ leaves) (s ∷ own) rest same =
    let head : plain_leaf l ≡ s = ap (λ (ts : List PlainLeaf). get_or ts 0 s) same in
    let cut = cut_behind leaves own rest (ap (drop 1) same) in
    (λ i. head i ∷ cut.0 i, cut.1)

pub cut_is : (leaves front back : List Leaf) (count : ℕ) (own rest : List PlainLeaf) → plain_leaves leaves ≡ own ++ rest → count ≡ length own → front ≡ take count leaves → back ≡ drop count leaves
    → (plain_leaves front ≡ own) × (plain_leaves back ≡ rest)
cut_is leaves front back count own rest same is in_front behind =
    let cut = cut_behind leaves own rest same in
    (ap plain_leaves in_front ∙ ap (λ (n : ℕ). plain_leaves (take n leaves)) is ∙ cut.0, ap plain_leaves behind ∙ ap (λ (n : ℕ). plain_leaves (drop n leaves)) is ∙ cut.1)

-- what is told of a root
pub told_is : (case : PlainProblem) (r : PlainCell) (leaves : List Leaf) → plain_leaves leaves ≡ leaves_of_root case r
    → cond (list_all (λ leaf. same_kind Far leaf.kind) leaves) [] (plain_leaves leaves) ≡ told_of_root case r
unfolding told_of_root is_far_throughout
told_is case r leaves same =
    ap (λ (far : Bool). cond far [] (plain_leaves leaves)) (sym (list_all-map (λ (s : PlainLeaf). same_kind Far s.kind) plain_leaf leaves))
    ∙ ap (λ (ss : List PlainLeaf). cond (list_all (λ s. same_kind Far s.kind) ss) [] ss) same

-- what is told in a slot with one root more
told_here : (case : PlainProblem) (rs : List PlainCell) (r : PlainCell) → told_at case (rs ++ r ∷ []) (slot_of case.first r.first) ≡ told_at case rs (slot_of case.first r.first) ++ told_of_root case r
told_here case rs r =
    let k = slot_of case.first r.first in
    let test = λ (q : PlainCell). eqb (slot_of case.first q.first) k in
    let yes : test r ≡ true = eq-eqb k k refl in
    ap (flat_map (told_of_root case)) (filter-append test rs (r ∷ []))
    ∙ flat_map-append (told_of_root case) (filter test rs) (filter test (r ∷ []))
    ∙ ap (λ (b : Bool). told_at case rs k ++ flat_map (told_of_root case) (cond b (r ∷ []) [])) yes
    ∙ ap (λ (ss : List PlainLeaf). told_at case rs k ++ ss) (append-nil (told_of_root case r))

told_elsewhere : (case : PlainProblem) (rs : List PlainCell) (r : PlainCell) (slot : ℕ) → ¬ (slot ≡ slot_of case.first r.first) → told_at case (rs ++ r ∷ []) slot ≡ told_at case rs slot
told_elsewhere case rs r slot other = go (eqb (slot_of case.first r.first) slot) refl
  where
    test : PlainCell → Bool
    test q = eqb (slot_of case.first q.first) slot

    go : (b : Bool) → test r ≡ b → told_at case (rs ++ r ∷ []) slot ≡ told_at case rs slot
    go true is = absurd (other (sym (eqb-true (slot_of case.first r.first) slot is)))
    go false is =
        ap (flat_map (told_of_root case)) (filter-append test rs (r ∷ []))
        ∙ ap (λ (b : Bool). flat_map (told_of_root case) (filter test rs ++ cond b (r ∷ []) [])) is
        ∙ ap (flat_map (told_of_root case)) (append-nil (filter test rs))

map_alike : {A : Type 0} (f g : ℕ → A) (a n : ℕ) → ((j : ℕ) → a ≤ j → f j ≡ g j) → map f (range_with_len a n) ≡ map g (range_with_len a n)
map_alike f g a zero same = refl
map_alike f g a (suc n) same = let here = same a (omega arith) in let rest = map_alike f g (a + 1) n (λ j le. same j (omega (arith, le))) in λ i. here i ∷ rest i

-- one value of a function over a range is another
set_made : {A : Type 0} (f g : ℕ → A) (a n k : ℕ) (y : A) → k < n → y ≡ g (a + k) → ((j : ℕ) → ¬ (j ≡ a + k) → f j ≡ g j) → set (map f (range_with_len a n)) k y ≡ map g (range_with_len a n)
set_made f g a zero k y lt is same = absurd (omega (arith, lt))
set_made f g a (suc n) zero y lt is same =
    let at : a + 0 ≡ a = omega arith in
    let here = is ∙ ap g at in
    let rest = map_alike f g (a + 1) n (λ j le. same j (λ e. absurd (omega (arith, e, le)))) in
    λ i. here i ∷ rest i
set_made {A} f g a (suc n) (suc k) y lt is same =
    let at : a + suc k ≡ a + 1 + k = omega arith in
    let here = same a (λ e. absurd (omega (arith, e))) in
    let rest = set_made f g (a + 1) n k y (omega (arith, lt)) (is ∙ ap g at) (λ j other. same j (λ e. other (e ∙ at))) in
    λ i. here i ∷ rest i

length_made : {A : Type 0} (f : ℕ → A) (a n : ℕ) → length (map f (range_with_len a n)) ≡ n
length_made f a zero = refl
length_made f a (suc n) = ap (λ (k : ℕ). suc k) (length_made f (a + 1) n)

-- leaves behind those of one list
pub list_longer : (lists : List (Vec Leaf)) (slot : ℕ) (d new : Vec Leaf) (told : List PlainLeaf) → slot < length lists
    → plain_leaves new.items ≡ plain_leaves (get_or lists slot d).items ++ told → plain_lists (set lists slot new) ≡ set (plain_lists lists) slot (get_or (plain_lists lists) slot [] ++ told)
list_longer lists slot d new told lt more =
    let seen = λ (list : Vec Leaf). plain_leaves list.items in
    let here : get_or (plain_lists lists) slot [] ≡ plain_leaves (get_or lists slot d).items = get_or-map seen lists slot d [] lt in
    map-set seen lists slot new ∙ ap (λ (ss : List PlainLeaf). set (plain_lists lists) slot ss) (more ∙ ap (λ (ss : List PlainLeaf). ss ++ told) (sym here))

-- a list that is lent as a whole and given back
pub given_back : {X : Type 0} (old new : List X) (n : ℕ) → length new ≡ length old → n ≡ length old → take n (new ++ drop (length new) old) ≡ new
given_back old new n same count =
    let none : drop (length new) old ≡ [] = ap (λ (k : ℕ). drop k old) same ∙ drop_all (length old) old (omega arith) in
    ap (λ xs. take n (new ++ xs)) none ∙ ap (take n) (append-nil new) ∙ take_all n new (omega (arith, same, count))

-- there is a list for each slot
pub slots_of_lists : (lists : List (Vec Leaf)) (f : ℕ → List PlainLeaf) (n : ℕ) → plain_lists lists ≡ map f (range_with_len 0 n) → length lists ≡ n
slots_of_lists lists f n same = sym (length-map lists (λ (list : Vec Leaf). plain_leaves list.items)) ∙ ap length same ∙ length_made f 0 n

made_at : {A : Type 0} (f : ℕ → A) (a n k : ℕ) (d : A) → k < n → get_or (map f (range_with_len a n)) k d ≡ f (a + k)
made_at f a zero k d lt = absurd (omega (arith, lt))
made_at f a (suc n) zero d lt = let at : a ≡ a + 0 = omega arith in ap f at
made_at f a (suc n) (suc k) d lt = let at : a + 1 + k ≡ a + suc k = omega arith in made_at f (a + 1) n k d (omega (arith, lt)) ∙ ap f at

pub told_more : (case : PlainProblem) (rs : List PlainCell) (r : PlainCell) (n k : ℕ) (lists new : List (List PlainLeaf)) (told : List PlainLeaf)
    → lists ≡ map (told_at case rs) (range_with_len 0 n) → k ≡ slot_of case.first r.first → k < n → told ≡ told_of_root case r → new ≡ set lists k (get_or lists k [] ++ told)
    → new ≡ map (told_at case (rs ++ r ∷ [])) (range_with_len 0 n)
told_more case rs r n k lists new told so_far here lt is more =
    let at : 0 + k ≡ k = omega arith in
    let old : get_or lists k [] ≡ told_at case rs k = ap (λ (ls : List (List PlainLeaf)). get_or ls k []) so_far ∙ made_at (told_at case rs) 0 n k [] lt ∙ ap (told_at case rs) at in
    let own : get_or lists k [] ++ told ≡ told_at case (rs ++ r ∷ []) (0 + k) =
    (λ i. old i ++ is i) ∙ ap (λ (j : ℕ). told_at case rs j ++ told_of_root case r) here ∙ sym (told_here case rs r) ∙ ap (told_at case (rs ++ r ∷ [])) (sym (at ∙ here)) in
    more ∙ ap (λ (ls : List (List PlainLeaf)). set ls k (get_or lists k [] ++ told)) so_far
    ∙ set_made (told_at case rs) (told_at case (rs ++ r ∷ [])) 0 n k (get_or lists k [] ++ told) lt own (λ j other. sym (told_elsewhere case rs r j (λ e. other (e ∙ sym (at ∙ here)))))

-- nothing is told of no roots
pub none_told : (case : PlainProblem) (a n : ℕ) → replicate n [] ≡ map (told_at case []) (range_with_len a n)
none_told case a zero = refl
none_told case a (suc n) = ap (λ (ls : List (List PlainLeaf)). [] ∷ ls) (none_told case (a + 1) n)

-- the first roots with one more
pub root_more : (roots : List Cell) (at : ℕ) (root : Cell) → at < length roots → root ≡ get_or roots at root → plain_cells (take (at + 1) roots) ≡ plain_cells (take at roots) ++ plain_cell root ∷ []
root_more roots at root lt is =
    ap plain_cells (take_more roots at root lt) ∙ map_push plain_cell (take at roots) (get_or roots at root)
    ∙ ap (λ (cell : Cell). plain_cells (take at roots) ++ plain_cell cell ∷ []) (sym is)

-- ---- slot by slot

filter-flat_map : {X Y : Type 0} (test : Y → Bool) (f : X → List Y) (xs : List X) → filter test (flat_map f xs) ≡ flat_map (λ x. filter test (f x)) xs
filter-flat_map test f [] = refl
filter-flat_map test f (x ∷ xs) = filter-append test (f x) (flat_map f xs) ∙ ap (λ ys. filter test (f x) ++ ys) (filter-flat_map test f xs)

flat_map-filter : {X Y : Type 0} (test : X → Bool) (f : X → List Y) (xs : List X) → flat_map f (filter test xs) ≡ flat_map (λ x. cond (test x) (f x) []) xs
flat_map-filter test f [] = refl
flat_map-filter {X} {Y} test f (x ∷ xs) = go (test x) (flat_map-filter test f xs)
  where
    go : (b : Bool) → flat_map f (filter test xs) ≡ flat_map (λ y. cond (test y) (f y) []) xs
        → flat_map f (cond b (x ∷ filter test xs) (filter test xs)) ≡ cond b (f x) [] ++ flat_map (λ y. cond (test y) (f y) []) xs
    go true rest = ap (λ (ys : List Y). f x ++ ys) rest
    go false rest = rest

filter_all : {X : Type 0} (test : X → Bool) (xs : List X) → Each (λ x. test x ≡ true) xs → filter test xs ≡ xs
filter_all test [] each = refl
filter_all test (x ∷ xs) each = let here = each.0 in rw here (ap (λ ys. x ∷ ys) (filter_all test xs each.1))

filter_none : {X : Type 0} (test : X → Bool) (xs : List X) → Each (λ x. test x ≡ false) xs → filter test xs ≡ []
filter_none test [] each = refl
filter_none test (x ∷ xs) each = let here = each.0 in rw here (filter_none test xs each.1)

none_in_range : {A : Type 0} (f : ℕ → List A) (a n : ℕ) → ((j : ℕ) → a ≤ j → f j ≡ []) → flat_map f (range_with_len a n) ≡ []
none_in_range f a zero none = refl
none_in_range f a (suc n) none = ap (λ xs. xs ++ flat_map f (range_with_len (a + 1) n)) (none a (omega arith)) ∙ none_in_range f (a + 1) n (λ j le. none j (omega (arith, le)))

-- a function that gives something of one number alone
one_in_range : {A : Type 0} (f : ℕ → List A) (a n k : ℕ) → a ≤ k → k < a + n → ((j : ℕ) → ¬ (j ≡ k) → f j ≡ []) → flat_map f (range_with_len a n) ≡ f k
one_in_range f a zero k low high none = absurd (omega (arith, low, high))
one_in_range {A} f a (suc n) k low high none = elim (cases_eq a k) [
  | inl same ↦
      ap (λ (xs : List A). f a ++ xs) (none_in_range f (a + 1) n (λ j le. none j (λ e. absurd (omega (arith, e, le, same))))) ∙ append-nil (f a) ∙ ap f same
  | inr other ↦ ap (λ (xs : List A). xs ++ flat_map f (range_with_len (a + 1) n)) (none a other) ∙ one_in_range f (a + 1) n k (omega (arith, low, other)) (omega (arith, high)) none
]

-- the roots of a slot begin in it
in_slot : (case : PlainProblem) (slot a b : ℕ) → Each (λ r. slot_of case.first r.first ≡ slot) (roots_in case slot a b)
in_slot case slot a b =
    Each-weaker (IsRoot case a b (slot_first case.first slot) (slot_last case.first case.last slot)) (λ r. slot_of case.first r.first ≡ slot)
    (λ r is. omega (arith, is.from, is.some, is.to))
    (roots_in case slot a b) (Each-between case a b (slot_first case.first slot) (slot_last case.first case.last slot))

-- of all roots those that begin in a slot are the roots of its candidates
roots_there : (candidate : ℕ → ℕ → ℕ → Bool) (case : PlainProblem) (k : ℕ) → k < slot_count case.first case.last
    → filter (λ r. eqb (slot_of case.first r.first) k) (roots_of candidate case) ≡ roots_in_slot case k (filter (λ pair. candidate pair.0 pair.1 k) (pairs_of (length case.tracks)))
unfolding roots_of
roots_there candidate case k lt =
    let pairs : List (ℕ × ℕ) = pairs_of (length case.tracks) in
    filter-flat_map test (λ pair. flat_map (one pair) (slots_of case)) pairs
    ∙ flat_map_alike (λ pair. filter test (flat_map (one pair) (slots_of case))) (λ pair. one pair k) pairs (each pairs)
    ∙ sym (flat_map-filter (λ pair. candidate pair.0 pair.1 k) (λ pair. roots_in case k pair.0 pair.1) pairs)
  where
    test : PlainCell → Bool
    test r = eqb (slot_of case.first r.first) k

    one : ℕ × ℕ → ℕ → List PlainCell
    one pair slot = cond (candidate pair.0 pair.1 slot) (roots_in case slot pair.0 pair.1) []

    here : (pair : ℕ × ℕ) (b : Bool) → filter test (cond b (roots_in case k pair.0 pair.1) []) ≡ cond b (roots_in case k pair.0 pair.1) []
    here pair true =
        filter_all test (roots_in case k pair.0 pair.1)
        (Each-weaker (λ r. slot_of case.first r.first ≡ k) (λ r. test r ≡ true) (λ r is. eq-eqb (slot_of case.first r.first) k is) (roots_in case k pair.0 pair.1) (in_slot case k pair.0 pair.1))
    here pair false = refl

    fails : (slot : ℕ) → ¬ (slot ≡ k) → (r : PlainCell) → slot_of case.first r.first ≡ slot → (b : Bool) → test r ≡ b → test r ≡ false
    fails slot other r is true passes = absurd (other (sym is ∙ eqb-true (slot_of case.first r.first) k passes))
    fails slot other r is false none = none

    elsewhere : (pair : ℕ × ℕ) (slot : ℕ) → ¬ (slot ≡ k) → (b : Bool) → filter test (cond b (roots_in case slot pair.0 pair.1) []) ≡ []
    elsewhere pair slot other true =
        filter_none test (roots_in case slot pair.0 pair.1)
        (Each-weaker (λ r. slot_of case.first r.first ≡ slot) (λ r. test r ≡ false) (λ r is. fails slot other r is (test r) refl) (roots_in case slot pair.0 pair.1) (in_slot case slot pair.0 pair.1))
    elsewhere pair slot other false = refl

    of_pair : (pair : ℕ × ℕ) → filter test (flat_map (one pair) (slots_of case)) ≡ one pair k
    of_pair pair =
        filter-flat_map test (one pair) (slots_of case)
        ∙ one_in_range (λ slot. filter test (one pair slot)) 0 (slot_count case.first case.last) k (omega arith) (omega (arith, lt)) (λ slot other. elsewhere pair slot other (candidate pair.0 pair.1 slot))
        ∙ here pair (candidate pair.0 pair.1 k)

    each : (pairs : List (ℕ × ℕ)) → Each (λ pair. filter test (flat_map (one pair) (slots_of case)) ≡ one pair k) pairs
    each pairs = Each-always (λ pair. filter test (flat_map (one pair) (slots_of case)) ≡ one pair k) of_pair pairs

-- what is told in each slot, one behind another
pub told_in_all : (case : PlainProblem) → flat_map (told_at case (roots_of (is_candidate case) case)) (slots_of case) ≡ told_leaves case
unfolding told_by roots_by_slot
told_in_all case =
    let candidate = is_candidate case in
    let there = λ (slot : ℕ). roots_in_slot case slot (filter (λ pair. candidate pair.0 pair.1 slot) (pairs_of (length case.tracks))) in
    flat_map_alike (told_at case (roots_of candidate case)) (λ slot. flat_map (told_of_root case) (there slot)) (slots_of case)
    (Each-range (λ slot. told_at case (roots_of candidate case) slot ≡ flat_map (told_of_root case) (there slot)) 0 (slot_count case.first case.last)
    (λ slot low high. ap (flat_map (told_of_root case)) (roots_there candidate case slot (omega (arith, high)))))
    ∙ sym (flat_map-flat_map (told_of_root case) there (slots_of case))

-- lists put one behind another
pub in_one_is : (lists : List (List PlainLeaf)) (f : ℕ → List PlainLeaf) (ks : List ℕ) → lists ≡ map f ks → flat_map (λ (ss : List PlainLeaf). ss) lists ≡ flat_map f ks
in_one_is lists f ks same = ap (flat_map (λ (ss : List PlainLeaf). ss)) same ∙ made ks
  where
    made : (ns : List ℕ) → flat_map (λ (ss : List PlainLeaf). ss) (map f ns) ≡ flat_map f ns
    made [] = refl
    made (n ∷ ns) = ap (λ (ss : List PlainLeaf). f n ++ ss) (made ns)

-- lists of leaves, put one behind another
pub plain_of_all : (lists : List (Vec Leaf)) → plain_leaves (flat_map (λ list. list.items) lists) ≡ flat_map (λ (ss : List PlainLeaf). ss) (plain_lists lists)
plain_of_all [] = refl
plain_of_all (list ∷ lists) =
    map-append plain_leaf list.items (flat_map (λ (l : Vec Leaf). l.items) lists) ∙ ap (λ (ss : List PlainLeaf). plain_leaves list.items ++ ss) (plain_of_all lists)

-- what is told in each slot by lists, one behind another
pub list_told : (case : PlainProblem) (roots : List PlainCell) (lists : List (Vec Leaf)) (all : List Leaf) → roots ≡ roots_of (is_candidate case) case
    → plain_lists lists ≡ map (told_at case roots) (slots_of case) → all ≡ flat_map (λ list. list.items) lists → plain_leaves all ≡ told_leaves case
list_told case roots lists all are told is =
    ap plain_leaves is ∙ plain_of_all lists ∙ in_one_is (plain_lists lists) (told_at case roots) (slots_of case) told
    ∙ ap (λ (rs : List PlainCell). flat_map (told_at case rs) (slots_of case)) are ∙ told_in_all case
