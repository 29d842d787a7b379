-- The candidates that are wanted: slot by slot of the pairs of a list, and in all.
use Rattle.std.proofs.Common.{◌≡◌, ℕ, ◌&&◌, Bool, true, false, List, [], ◌∷◌, length, filter, refl, sym, ap, ◌∙◌, arith}
use Rattle.std.specs.List.{flat_map, sum_by}
use Rattle.cj_case.specs.PlainProblems.{PlainProblem}
use Rattle.cj_case.specs.Pairs.{pairs_of}
use Rattle.cj_hermite.specs.Roots.{roots_by_slot, roots_in_slot, roots_of, slots_of}
use Rattle.cj_hermite.proofs.RootSumLemmas.{same_roots}
use Rattle.cj_interval.proofs.SumLemmas.{total}
use Rattle.cj_bezier.specs.Shells.{keeps_between}
use Rattle.cj_bezier.specs.Candidates.{candidate_pairs, is_candidate, is_kept, is_touching, pairs_kept, shells_of}
use Rattle.cj_case.specs.declared.shells.Shell.{Shell}
use Rattle.std.specs.Prelude.{Option}
use Rattle.cj_candidates.specs.Counts.{candidate_count}
use Rattle.cj_candidates.specs.SlotRuns.{candidates_at, roots_at}
use Rattle.cj_candidates.specs.SoughtPairs.{HoldCandidates, candidates_of, is_wanted_candidate}
use Rattle.cj_candidates.proofs.ListedLemmas.{all_wanted}
use Rattle.cj_candidates.proofs.ObjectLemmas.{filter_both}

length_is : {X : Type 0} (xs : List X) → length xs ≡ total (λ x. 1) xs
unfolding total
length_is [] = refl
length_is (x ∷ xs) = let rest = length_is xs in omega (arith, rest)

-- slot by slot there are as many roots as in all
pub as_many_roots : (candidate : ℕ → ℕ → ℕ → Bool) (case : PlainProblem) → length (roots_by_slot candidate case) ≡ length (roots_of candidate case)
as_many_roots candidate case = length_is (roots_by_slot candidate case) ∙ same_roots candidate case (λ r. 1) ∙ sym (length_is (roots_of candidate case))

-- those of the pairs that are wanted
pub wanted_by_slot : (case : PlainProblem) (sought : List (ℕ × ℕ)) (wanted : ℕ × ℕ → Bool) → sought ≡ filter wanted (pairs_of (length case.tracks))
    → roots_at case sought (slots_of case) ≡ roots_by_slot (is_wanted_candidate wanted case) case
unfolding roots_by_slot is_wanted_candidate
wanted_by_slot case sought wanted same =
    ap (λ (some : List (ℕ × ℕ)). roots_at case some (slots_of case)) same
    ∙ (λ i. flat_map (λ slot. roots_in_slot case slot (filter_both wanted (λ pair. is_candidate case pair.0 pair.1 slot) (pairs_of (length case.tracks)) i)) (slots_of case))

-- all pairs are wanted by a test that all pass
pub wanted_all : (case : PlainProblem) → is_wanted_candidate (λ pair. true) case ≡ is_candidate case
unfolding is_wanted_candidate
wanted_all case = refl

kept_already : (a b c : Bool) → ((a && b) && (b && c)) ≡ (a && (b && c))
kept_already true true c = refl
kept_already true false c = refl
kept_already false b c = refl

-- a candidate is kept anyhow
pub kept_anyhow : (wanted : ℕ × ℕ → Bool) (case : PlainProblem) → is_wanted_candidate (λ pair. wanted pair && is_kept case pair) case ≡ is_wanted_candidate wanted case
unfolding is_wanted_candidate is_candidate
kept_anyhow wanted case = λ i a b slot. kept_already (wanted (a, b)) (is_kept case (a, b)) (is_touching case slot (a, b)) i

-- of those that are wanted the ones that are kept
pub kept_wanted : (case : PlainProblem) (pairs kept : List (ℕ × ℕ)) (shells : List (Option Shell)) (sizes : List ℕ) (wanted : ℕ × ℕ → Bool) → shells ≡ shells_of case → sizes ≡ case.sizes
    → kept ≡ filter (keeps_between case.primaries case.threshold sizes shells) pairs → pairs ≡ filter wanted (pairs_of (length case.tracks))
    → kept ≡ filter (λ pair. wanted pair && is_kept case pair) (pairs_of (length case.tracks))
kept_wanted case pairs kept shells sizes wanted in_shells sized passed same =
    passed ∙ (λ i. filter (keeps_between case.primaries case.threshold (sized i) (in_shells i)) (same i))
    ∙ filter_both wanted (is_kept case) (pairs_of (length case.tracks))

-- ---- pairs among which all candidates are

-- all pairs
pub all_hold : (case : PlainProblem) → HoldCandidates case (pairs_of (length case.tracks))
all_hold case = record { wanted = λ pair. true; listed = all_wanted (pairs_of (length case.tracks)); candidates = wanted_all case }

twice : (b c : Bool) → (b && (b && c)) ≡ (b && c)
twice true c = refl
twice false c = refl

kept_only : (case : PlainProblem) → is_wanted_candidate (is_kept case) case ≡ is_candidate case
unfolding is_wanted_candidate is_candidate
kept_only case = λ i a b slot. twice (is_kept case (a, b)) (is_touching case slot (a, b)) i

-- those that are kept
pub kept_hold : (case : PlainProblem) (kept : List (ℕ × ℕ)) → kept ≡ pairs_kept case → HoldCandidates case kept
kept_hold case kept same = record { wanted = is_kept case; listed = same; candidates = kept_only case }

-- of them the candidates of a slot are all that there are
pub candidates_held : (case : PlainProblem) (sought : List (ℕ × ℕ)) → HoldCandidates case sought → (slot : ℕ) → candidates_of case sought slot ≡ candidate_pairs case slot
unfolding is_wanted_candidate
candidates_held case sought held slot =
    ap (filter (λ pair. is_candidate case pair.0 pair.1 slot)) held.listed
    ∙ filter_both held.wanted (λ pair. is_candidate case pair.0 pair.1 slot) (pairs_of (length case.tracks))
    ∙ ap (λ (candidate : ℕ → ℕ → ℕ → Bool). filter (λ pair. candidate pair.0 pair.1 slot) (pairs_of (length case.tracks))) held.candidates

-- and so is their number
pub count_held : (case : PlainProblem) (sought : List (ℕ × ℕ)) → HoldCandidates case sought → candidates_at case sought (slots_of case) ≡ candidate_count case
count_held case sought held = λ i. sum_by (λ slot. length (candidates_held case sought held slot i)) (slots_of case)
