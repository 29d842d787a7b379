-- The roots and leaves of the pairs that are not unchanged: of all roots those whose pairs are not, and no more leaves than there are in all.
use Rattle.std.proofs.Common.{◌≡◌, ℕ, suc, ◌<◌, ◌≤◌, Bool, true, false, cond, List, [], ◌∷◌, ◌++◌, All, Option, filter, length, refl, sym, ap, subst, ◌∙◌, arith, length-append}
use Rattle.std.specs.Prelude.{◌&&◌, AllPairs, not}
use Rattle.std.specs.List.{flat_map}
use Rattle.std.proofs.lemmas.List.{length-map}
use Rattle.std.proofs.lemmas.List.Elements.{filter-append}
use Rattle.cj_case.specs.declared.cell.Cell.{Cell}
use Rattle.cj_case.specs.Cells.{PlainCell, IsRootBefore, IsRootUpTo, plain_cell, plain_cells}
use Rattle.cj_case.specs.Pairs.{pairs_of}
use Rattle.cj_case.specs.PlainProblems.{PlainProblem}
use Rattle.cj_case.specs.Unchanged.{is_unchanged}
use Rattle.cj_hermite.specs.Roots.{roots_in, roots_of, slots_of}
use Rattle.cj_case.specs.declared.shells.Shell.{Shell}
use Rattle.cj_bezier.specs.Candidates.{is_candidate, is_candidate_anew, shells_of}
use Rattle.cj_bezier.specs.Shells.{shell_of}
use Rattle.cj_bezier.specs.RootLeaves.{leaves_of_roots}
use Rattle.cj_cells.specs.Lists.{list_of, looks_anew, looks_of_roots}
use Rattle.cj_hermite.proofs.RootLemmas.{IsRootOf, Each-roots, Ordered-roots}
use Rattle.cj_interval.proofs.ListLemmas.{Each, Ordered, All-from_each, AllPairs-from_ordered, Each-always, Each-weaker, each_from_map, flat_map_alike}
use Rattle.cj_again.specs.PairLeaves.{leaves_of_pair, roots_of_pair}
use Rattle.cj_again.proofs.PairLeafLemmas.{IsRootFor, list_by_pairs, roots_for}

filter_roots : {X : Type 0} (test : PlainCell → Bool) (f : X → List PlainCell) (xs : List X) → filter test (flat_map f xs) ≡ flat_map (λ x. filter test (f x)) xs
filter_roots test f [] = refl
filter_roots test f (x ∷ xs) = filter-append test (f x) (flat_map f xs) ∙ ap (λ rs. filter test (f x) ++ rs) (filter_roots test f xs)

one_answer : (test : PlainCell → Bool) (c : Bool) (rs : List PlainCell) → Each (λ r. test r ≡ c) rs → filter test rs ≡ cond c rs []
one_answer test true [] are = refl
one_answer test false [] are = refl
one_answer test true (r ∷ rs) are = rw are.0 (ap (λ qs. r ∷ qs) (one_answer test true rs are.1))
one_answer test false (r ∷ rs) are = rw are.0 (one_answer test false rs are.1)

none_listed : {X Y : Type 0} (xs : List X) → flat_map (λ x. let none : List Y = [] in none) xs ≡ []
none_listed [] = refl
none_listed (x ∷ xs) = none_listed xs

-- the roots of a pair where a test of the pair stands before the other
tested_roots : (candidate : ℕ → ℕ → ℕ → Bool) (case : PlainProblem) (pair : ℕ × ℕ) (c : Bool) →
    flat_map (λ slot. cond (c && candidate pair.0 pair.1 slot) (roots_in case slot pair.0 pair.1) []) (slots_of case) ≡ cond c (roots_of_pair candidate case pair) []
unfolding roots_of_pair
tested_roots candidate case pair true = refl
tested_roots candidate case pair false = none_listed (slots_of case)

pub changed_are : (old new : PlainProblem) →
    filter (λ r. not (is_unchanged old new (r.a, r.b))) (roots_of (is_candidate new) new) ≡ roots_of (is_candidate_anew old new) new
unfolding roots_of roots_of_pair is_candidate_anew
changed_are old new =
    let test : PlainCell → Bool = λ r. not (is_unchanged old new (r.a, r.b)) in
    let pairs = pairs_of (length new.tracks) in
    filter_roots test (roots_of_pair (is_candidate new) new) pairs
    ∙ flat_map_alike (λ p. filter test (roots_of_pair (is_candidate new) new p)) (roots_of_pair (is_candidate_anew old new) new) pairs
    (Each-always (λ p. filter test (roots_of_pair (is_candidate new) new p) ≡ roots_of_pair (is_candidate_anew old new) new p)
    (λ p. one_answer test (not (is_unchanged old new p)) (roots_of_pair (is_candidate new) new p)
    (Each-weaker (IsRootFor p.0 p.1) (λ r. test r ≡ not (is_unchanged old new p)) (λ r of. λ i. not (is_unchanged old new (of.first i, of.second i)))
    (roots_of_pair (is_candidate new) new p) (roots_for (is_candidate new) new p.0 p.1))
    ∙ sym (tested_roots (is_candidate new) new p (not (is_unchanged old new p)))) pairs)

-- they are no more than all
filter_fewer : (test : PlainCell → Bool) (rs : List PlainCell) → length (filter test rs) ≤ length rs
filter_fewer test [] = omega arith
filter_fewer test (r ∷ rs) = go (test r) (filter_fewer test rs)
  where
    go : (c : Bool) → length (filter test rs) ≤ length rs → length (cond c (r ∷ filter test rs) (filter test rs)) ≤ suc (length rs)
    go true le = omega (arith, le)
    go false le = omega (arith, le)

pub changed_few : (old new : PlainProblem) (roots some : List PlainCell) → roots ≡ roots_of (is_candidate new) new →
    some ≡ filter (λ r. not (is_unchanged old new (r.a, r.b))) roots → length some ≤ length roots
changed_few old new roots some all found =
    let fewer = filter_fewer (λ r. not (is_unchanged old new (r.a, r.b))) roots in
    let same = ap length found in
    omega (arith, fewer, same)

-- all roots are in order, whichever pairs are candidates, and of existing objects
pub roots_ordered : (candidate : ℕ → ℕ → ℕ → Bool) (case : PlainProblem) → AllPairs IsRootUpTo (roots_of candidate case)
roots_ordered candidate case =
    AllPairs-from_ordered IsRootUpTo (roots_of candidate case)
    (up_to (roots_of candidate case) (Each-roots candidate case) (Ordered-roots candidate case))
  where
    up_to : (rs : List PlainCell) → Each (IsRootOf case) rs → Ordered IsRootBefore rs → Ordered IsRootUpTo rs
    up_to [] are o = tt
    up_to (r ∷ rs) are o =
        let some = are.0 in
        let root = some.root in (
          Each-weaker (IsRootBefore r) (IsRootUpTo r)
              (λ s before. record { first_object = before.first_object; second_object = before.second_object; ticks = λ a b. omega (arith, root.some, before.ticks a b) }) rs o.0,
          up_to rs are.1 o.1,
        )

pub roots_exist : (candidate : ℕ → ℕ → ℕ → Bool) (case : PlainProblem) (cells : List Cell) → plain_cells cells ≡ roots_of candidate case → All (λ cell. cell.pair.b < length case.tracks) cells
roots_exist candidate case cells same =
    All-from_each (λ cell. cell.pair.b < length case.tracks) cells
    (each_from_map (λ (r : PlainCell). r.b < length case.tracks) plain_cell cells
    (subst (Each (λ (r : PlainCell). r.b < length case.tracks)) (sym same)
    (Each-weaker (IsRootOf case) (λ r. r.b < length case.tracks) (λ r is. is.exists) (roots_of candidate case) (Each-roots candidate case))))

-- the leaves of a pair that is not unchanged, and of one that is
pub anew_leaves : (old new : PlainProblem) (pair : ℕ × ℕ) → is_unchanged old new pair ≡ false → leaves_of_pair (is_candidate_anew old new) new pair ≡ leaves_of_pair (is_candidate new) new pair
unfolding leaves_of_pair roots_of_pair is_candidate_anew
anew_leaves old new pair is =
    ap (λ (u : Bool). leaves_of_roots new (flat_map (λ slot. cond (not u && is_candidate new pair.0 pair.1 slot) (roots_in new slot pair.0 pair.1) []) (slots_of new))) is

no_leaves : (old new : PlainProblem) (pair : ℕ × ℕ) → is_unchanged old new pair ≡ true → leaves_of_pair (is_candidate_anew old new) new pair ≡ []
unfolding leaves_of_pair roots_of_pair is_candidate_anew leaves_of_roots
no_leaves old new pair is =
    ap (λ (u : Bool). leaves_of_roots new (flat_map (λ slot. cond (not u && is_candidate new pair.0 pair.1 slot) (roots_in new slot pair.0 pair.1) []) (slots_of new))) is
    ∙ ap (leaves_of_roots new) (none_listed (slots_of new))

flat_fewer : {X Y : Type 0} (f g : X → List Y) → ((x : X) → length (f x) ≤ length (g x)) → (xs : List X) → length (flat_map f xs) ≤ length (flat_map g xs)
flat_fewer f g fewer [] = omega arith
flat_fewer f g fewer (x ∷ xs) =
    let here = fewer x in
    let rest = flat_fewer f g fewer xs in
    omega (arith, here, rest, length-append (f x) (flat_map f xs), length-append (g x) (flat_map g xs))

pub anew_fewer : (old new : PlainProblem) → length (list_of (is_candidate_anew old new) new) ≤ length (list_of (is_candidate new) new)
anew_fewer old new =
    let anew = ap length (list_by_pairs (is_candidate_anew old new) new) in
    let all = ap length (list_by_pairs (is_candidate new) new) in
    let within = flat_fewer (leaves_of_pair (is_candidate_anew old new) new) (leaves_of_pair (is_candidate new) new) fewer (pairs_of (length new.tracks)) in
    omega (arith, anew, all, within)
  where
    fewer : (pair : ℕ × ℕ) → length (leaves_of_pair (is_candidate_anew old new) new pair) ≤ length (leaves_of_pair (is_candidate new) new pair)
    fewer pair = go (is_unchanged old new pair) refl
      where
        go : (c : Bool) → is_unchanged old new pair ≡ c → length (leaves_of_pair (is_candidate_anew old new) new pair) ≤ length (leaves_of_pair (is_candidate new) new pair)
        go true is = let none = ap length (no_leaves old new pair is) in omega (arith, none)
        go false is = let same = ap length (anew_leaves old new pair is) in omega (arith, same)

-- as many shells as objects
pub shells_count : (case : PlainProblem) (shells : List (Option Shell)) → shells ≡ shells_of case → length shells ≡ length case.tracks
unfolding shells_of
shells_count case shells same = ap (λ (xs : List (Option Shell)). length xs) same ∙ length-map case.tracks (λ e. shell_of e case.first case.last)

-- ---- what comes of the roots of the pairs that are not unchanged

pub leaves_anew : (old new : PlainProblem) (cells : List Cell) → plain_cells cells ≡ roots_of (is_candidate_anew old new) new → leaves_of_roots new (plain_cells cells) ≡ list_of (is_candidate_anew old new) new
unfolding list_of
leaves_anew old new cells same = ap (leaves_of_roots new) same

pub looks_are : (old new : PlainProblem) (cells : List Cell) → plain_cells cells ≡ roots_of (is_candidate_anew old new) new → looks_of_roots new (plain_cells cells) ≡ looks_anew old new
unfolding looks_anew
looks_are old new cells same = ap (looks_of_roots new) same
