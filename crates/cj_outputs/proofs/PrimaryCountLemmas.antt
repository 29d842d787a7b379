-- How many pairs have a primary.
use Rattle.std.proofs.Common.{◌≡◌, ℕ, zero, suc, ◌+◌, ◌-◌, ◌*◌, ◌≤◌, Bool, true, false, not, cond, ◌&&◌, ◌||◌, List, [], ◌∷◌, length, map, Option, Some, None, refl, sym, ap, ap₂, ◌∙◌, arith}
use Rattle.std.specs.Prelude.{count_by, filter, slice_index_or}
use Rattle.std.specs.List.{flat_map, range_with_len}
use Rattle.std.proofs.Math.Nat.{mul-suc, suc-mul}
use Rattle.std.proofs.lemmas.List.Filters.{length-filter_both}
use Rattle.std.proofs.lemmas.List.Sums.{length-filter, count_by-le-length, sum_by-append, sum_by-cons}
use Rattle.cj_case.specs.Pairs.{pairs_of}
use Rattle.cj_case.specs.PlainProblems.{PlainProblem, threshold_between}
use Rattle.cj_case.specs.Primaries.{concerns, has_primary, marks_of}
use Rattle.cj_case.proofs.PairLemmas.{pairs_from}
use Rattle.cj_bezier.specs.Candidates.{shells_of}
use Rattle.cj_bezier.specs.Shells.{keeps}
use Rattle.cj_candidates.proofs.CountLemmas.{pair_twice}
use Rattle.cj_outputs.specs.Summaries.{kept_count, pair_count, secondary_count}

-- both objects of a pair are such
abbrev both : (ℕ → Bool) → ℕ × ℕ → Bool
both p pair = p pair.0 && p pair.1

abbrev one : Bool → ℕ
one b = cond b 1 0

abbrev with_other : ℕ → ℕ → ℕ × ℕ
with_other a b = (a, b)

-- of the pairs of one object with others
row_count : (p : ℕ → Bool) (a : ℕ) (bs : List ℕ) → count_by (both p) (map (with_other a) bs) ≡ cond (p a) (count_by p bs) 0
row_count p a [] = none (p a)
  where
    none : (b : Bool) → ◌≡◌ {A = ℕ} 0 (cond b 0 0)
    none true = refl
    none false = refl
row_count p a (b ∷ bs) =
    sum_by-cons (λ pair. one (both p pair)) (a, b) (map (with_other a) bs)
    ∙ ap (λ (n : ℕ). one (p a && p b) + n) (row_count p a bs)
    ∙ at (p a) (p b) (count_by p bs)
    ∙ ap (λ (n : ℕ). cond (p a) n 0) (sym (sum_by-cons (λ k. one (p k)) b bs))
  where
    at : (x y : Bool) (n : ℕ) → one (x && y) + cond x n 0 ≡ cond x (one y + n) 0
    at true y n = refl
    at false y n = refl

-- one object before s, of which t pairs are counted
step : (b : Bool) (s t : ℕ) → 2 * t + s ≡ s * s → 2 * (cond b s 0 + t) + (one b + s) ≡ (one b + s) * (one b + s)
step true s t e =
    let square : suc s * suc s ≡ s * s + s + suc s = mul-suc (suc s) s ∙ ap (λ m. m + suc s) (suc-mul s s) in
    omega (arith, e, square)
step false s t e =
    let same : (n : ℕ) → 0 + n ≡ n = λ n. omega arith in
    ap₂ (λ (x y : ℕ). 2 * x + y) (same t) (same s) ∙ e ∙ ap₂ (λ (x y : ℕ). x * y) (sym (same s)) (sym (same s))

-- of the pairs of the last k of n objects
rows : (p : ℕ → Bool) (n a k : ℕ) → a + k ≡ n
    → 2 * count_by (both p) (flat_map (pairs_from n) (range_with_len a k)) + count_by p (range_with_len a k) ≡ count_by p (range_with_len a k) * count_by p (range_with_len a k)
rows p n a zero e = refl
rows p n a (suc k) e =
    let rest = range_with_len (a + 1) k in
    let long : n - (a + 1) ≡ k = omega arith in
    let row : count_by (both p) (pairs_from n a) ≡ cond (p a) (count_by p rest) 0 = ap (λ (m : ℕ). count_by (both p) (map (with_other a) (range_with_len (a + 1) m))) long ∙ row_count p a rest in
    let pairs : count_by (both p) (flat_map (pairs_from n) (range_with_len a (suc k))) ≡ cond (p a) (count_by p rest) 0 + count_by (both p) (flat_map (pairs_from n) rest) =
    sum_by-append (λ pair. one (both p pair)) (pairs_from n a) (flat_map (pairs_from n) rest) ∙ ap (λ (m : ℕ). m + count_by (both p) (flat_map (pairs_from n) rest)) row in
    let objects : count_by p (range_with_len a (suc k)) ≡ one (p a) + count_by p rest = sum_by-cons (λ k. one (p k)) a rest in
    ap₂ (λ (x y : ℕ). 2 * x + y) pairs objects ∙ step (p a) (count_by p rest) (count_by (both p) (flat_map (pairs_from n) rest)) (rows p n (a + 1) k (omega arith))
    ∙ ap₂ (λ (x y : ℕ). x * y) (sym objects) (sym objects)

-- those that are not marked, by their numbers
unmarked : (all rest : List Bool) (k : ℕ) → ((i : ℕ) → slice_index_or rest i false ≡ slice_index_or all (k + i) false)
    → count_by (λ a. not (slice_index_or all a false)) (range_with_len k (length rest)) ≡ count_by not rest
unmarked all [] k same = refl
unmarked all (mark ∷ rest) k same =
    let here : k + 0 ≡ k = omega arith in
    let first : slice_index_or all k false ≡ mark = ap (λ (i : ℕ). slice_index_or all i false) (sym here) ∙ sym (same 0) in
    sum_by-cons (λ a. one (not (slice_index_or all a false))) k (range_with_len (k + 1) (length rest))
    ∙ ap₂ (λ (b : Bool) (n : ℕ). one (not b) + n) first
    (unmarked all rest (k + 1) (λ i. let next : k + suc i ≡ k + 1 + i = omega arith in same (suc i) ∙ ap (λ (j : ℕ). slice_index_or all j false) next))
    ∙ sym (sum_by-cons (λ b. one (not b)) mark rest)

-- the pairs of two secondaries
secondaries : (marks : List Bool) (n : ℕ) → length marks ≡ n
    → 2 * count_by (both (λ a. not (slice_index_or marks a false))) (pairs_of n) + count_by not marks ≡ count_by not marks * count_by not marks
secondaries marks n long =
    let p : ℕ → Bool = λ a. not (slice_index_or marks a false) in
    let few : count_by p (range_with_len 0 n) ≡ count_by not marks = ap (λ (m : ℕ). count_by p (range_with_len 0 m)) (sym long) ∙ unmarked marks marks 0 (λ i. let same : i ≡ 0 + i = omega arith in ap (λ (j : ℕ). slice_index_or marks j false) same) in
    ap (λ (s : ℕ). 2 * count_by (both p) (pairs_of n) + s) (sym few) ∙ rows p n 0 n (omega arith) ∙ ap₂ (λ (x y : ℕ). x * y) few few

either : (a b : Bool) → (not a && not b) ≡ not (a || b)
either true b = refl
either false b = refl

-- the pairs that have a primary, and those of two secondaries, are all
some_primary : (marks : List Bool) (n s : ℕ) → length marks ≡ n → 2 * s + count_by not marks ≡ count_by not marks * count_by not marks
    → length (filter (has_primary (Some marks)) (pairs_of n)) + s ≡ length (pairs_of n)
unfolding has_primary
some_primary marks n s long twice =
    let p : ℕ → Bool = λ a. not (slice_index_or marks a false) in
    let all = length-filter_both (has_primary (Some marks)) (both p) (λ pair. either (slice_index_or marks pair.0 false) (slice_index_or marks pair.1 false)) (pairs_of n) in
    omega (arith, all, length-filter (both p) (pairs_of n), secondaries marks n long, twice)

-- each pair has one where each object is one
all_primary : (pairs : List (ℕ × ℕ)) → filter (has_primary None) pairs ≡ pairs
unfolding has_primary
all_primary [] = refl
all_primary (pair ∷ pairs) = ap (λ (ps : List (ℕ × ℕ)). pair ∷ ps) (all_primary pairs)

-- no more objects are secondaries than there are
pub few_secondaries : (primaries : Option (List Bool)) (n : ℕ) → marks_of primaries n ≡ n → secondary_count primaries ≤ n
few_secondaries None n marked = omega arith
few_secondaries (Some marks) n marked = omega (arith, count_by-le-length not marks, marked)

-- so the pairs of secondaries are no more than all, and the others have a primary
pub pairs_concerned : (primaries : Option (List Bool)) (n all some : ℕ) → marks_of primaries n ≡ n → all ≡ length (pairs_of n) → some ≡ length (pairs_of (secondary_count primaries))
    → (some ≤ all) × (all - some ≡ length (filter (has_primary primaries) (pairs_of n)))
pairs_concerned None n all some marked is others =
    let none : some ≡ 0 = others in
    let each : length (filter (has_primary None) (pairs_of n)) ≡ length (pairs_of n) = ap (λ (ps : List (ℕ × ℕ)). length ps) (all_primary (pairs_of n)) in
    (omega (arith, none), omega (arith, none, is, each))
pairs_concerned (Some marks) n all some marked is others =
    let law = some_primary marks n (length (pairs_of (count_by not marks))) marked (pair_twice (count_by not marks)) in
    (omega (arith, law, is, others), omega (arith, law, is, others))

-- of what passes two tests no more than of what passes one
fewer_both : {X : Type 0} (p q : X → Bool) (xs : List X) → length (filter (λ x. p x && q x) xs) ≤ length (filter p xs)
fewer_both p q [] = omega arith
fewer_both {X = X} p q (x ∷ xs) = at (p x) (q x) (fewer_both p q xs)
  where
    two : List X
    two = filter (λ y. p y && q y) xs

    at : (a b : Bool) → length two ≤ length (filter p xs) → length (cond (a && b) (x ∷ two) two) ≤ length (cond a (x ∷ filter p xs) (filter p xs))
    at true true rest = omega (arith, rest)
    at true false rest = omega (arith, rest)
    at false b rest = rest

-- no more pairs are kept than have a primary
pub kept_concerned : (case : PlainProblem) → kept_count case ≤ pair_count case
kept_concerned case = fewer_both (concerns case) (λ pair. keeps (threshold_between case.threshold case.sizes pair.0 pair.1) (shells_of case) pair) (pairs_of (length case.tracks))
