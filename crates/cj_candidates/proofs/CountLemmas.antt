-- How many pairs there are, and how many of them are candidates.
use Rattle.std.proofs.Common.{◌≡◌, ℕ, zero, suc, ◌+◌, ◌-◌, ◌*◌, ◌/◌, ◌≤◌, List, [], ◌∷◌, length, refl, ap, ◌∙◌, arith, length-append}
use Rattle.std.specs.List.{flat_map, range_with_len, sum_by}
use Rattle.std.proofs.Math.Nat.{mul-suc, suc-mul}
use Rattle.std.proofs.lemmas.Nat.{column_fits}
use Rattle.std.proofs.lemmas.List.{length-map}
use Rattle.std.proofs.lemmas.List.FromFn.{length-range_with_len}
use Rattle.std.proofs.lemmas.List.Sums.{length-filter, count_by-le-length, sum_by-append, sum_by-cons}
use Rattle.cj_case.specs.PlainProblems.{PlainProblem}
use Rattle.cj_case.specs.Pairs.{pairs_of}
use Rattle.cj_interval.proofs.RangeLemmas.{range_more}
use Rattle.cj_case.proofs.PairLemmas.{pairs_from}
use Rattle.cj_bezier.specs.Candidates.{is_kept, is_candidate, pairs_kept, candidate_pairs}
use Rattle.cj_candidates.specs.SoughtPairs.{candidates_of}

-- the pairs of the last k of n objects
rows : (n a k : ℕ) → a + k ≡ n → 2 * length (flat_map (pairs_from n) (range_with_len a k)) + k ≡ k * k
rows n a zero e = refl
rows n a (suc k) e =
    let rest = rows n (a + 1) k (omega arith) in
    let row : length (pairs_from n a) ≡ k =
    length-map (range_with_len (a + 1) (n - (a + 1))) (λ (b : ℕ). let p : ℕ × ℕ = (a, b) in p) ∙ length-range_with_len (a + 1) (n - (a + 1)) ∙ omega arith in
    let square : suc k * suc k ≡ k * k + k + suc k = mul-suc (suc k) k ∙ ap (λ m. m + suc k) (suc-mul k k) in
    omega (arith, length-append (pairs_from n a) (flat_map (pairs_from n) (range_with_len (a + 1) k)))

pub pair_twice : (n : ℕ) → 2 * length (pairs_of n) + n ≡ n * n
pair_twice n = rows n 0 n (omega arith)

-- the number of pairs
pub pair_number : (n m : ℕ) → m ≡ n * (n - 1) → length (pairs_of n) ≡ m / 2
pair_number zero m e = let twice = pair_twice 0 in omega arith
pair_number (suc n) m e =
    let twice = pair_twice (suc n) in
    let square = mul-suc (suc n) n in
    let less : suc n - 1 ≡ n = omega arith in
    let same : m ≡ suc n * n = e ∙ ap (λ k. suc n * k) less in
    omega arith

square_few : (n : ℕ) → n ≤ 65_535 → n * n ≤ 4_294_836_225
square_few zero few = omega arith
square_few (suc n) few =
    let fits = column_fits (suc n) n 65_535 65_535 (omega arith) few in
    let square = mul-suc (suc n) n in
    omega arith

-- the candidates of a slot are few, of pairs that are no more than there are
pub candidates_few : (case : PlainProblem) (sought : List (ℕ × ℕ)) (slot : ℕ) → length sought ≤ length (pairs_of (length case.tracks)) → length case.tracks ≤ 65_535
    → length (candidates_of case sought slot) ≤ 4_294_836_225
candidates_few case sought slot fewer few =
    let n = length case.tracks in
    let all = length-filter (λ pair. is_candidate case pair.0 pair.1 slot) sought in
    let some = count_by-le-length (λ pair. is_candidate case pair.0 pair.1 slot) sought in
    let twice = pair_twice n in
    let square = square_few n few in
    omega (arith, fewer, all, some, twice, square)

-- one slot more
pub candidates_more : (case : PlainProblem) (k : ℕ) → sum_by (λ slot. length (candidate_pairs case slot)) (range_with_len 0 (k + 1)) ≡ sum_by (λ slot. length (candidate_pairs case slot)) (range_with_len 0 k) + length (candidate_pairs case k)
candidates_more case k =
    let f = λ (slot : ℕ). length (candidate_pairs case slot) in
    ap (sum_by f) (range_more 0 k) ∙ sum_by-append f (range_with_len 0 k) ((0 + k) ∷ [])
    ∙ ap (λ n. sum_by f (range_with_len 0 k) + n) (sum_by-cons f (0 + k) [])
    ∙ (let e : f (0 + k) + sum_by f [] ≡ f k = (let same : 0 + k ≡ k = omega arith in ap (λ (j : ℕ). f j + 0) same ∙ omega arith) in ap (λ n. sum_by f (range_with_len 0 k) + n) e)

-- no more pairs are kept than there are
pub kept_le : (case : PlainProblem) (n : ℕ) → n ≡ length case.tracks → length (pairs_kept case) ≤ length (pairs_of n)
kept_le case n same =
    let all = length-filter (is_kept case) (pairs_of (length case.tracks)) in
    let some = count_by-le-length (is_kept case) (pairs_of (length case.tracks)) in
    let count = ap (λ (k : ℕ). length (pairs_of k)) same in
    omega arith
