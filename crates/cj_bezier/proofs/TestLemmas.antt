-- Tests over the seven coefficients, and the facts that they decide.
use Rattle.std.proofs.Common.{◌≡◌, ℕ, ◌+◌, ◌-◌, ◌*◌, ◌<◌, arith, refl, Bool, List, [], ◌∷◌, length, slice_index_or}
use Rattle.std.specs.Bool.{Decides}
use Rattle.std.proofs.lemmas.Bool.Decides.{Decides-by_and, Decides-and}
use Rattle.std.proofs.lemmas.Int.{ints}
use Rattle.std.specs.Prelude.{ℤ, pos, ◌≤ℤ◌, ◌<ℤ◌, int_lt, int_le}
use Rattle.std.specs.List.{All, list_all, zip}
use Rattle.cj_interval.specs.declared.span.Span.{Span}
use Rattle.cj_interval.proofs.IntegerLemmas.{decides_le}
use Rattle.cj_hermite.specs.Distance.{BAND}
use Rattle.cj_case.specs.declared.kind.Kind.{Kind}
use Rattle.cj_case.specs.declared.kind.Kind.TheVariants as kinds
use Rattle.cj_bezier.specs.Hulls.{lows, highs}
use Rattle.cj_bezier.specs.Gaps.{PlainGap}
use Rattle.cj_bezier.specs.Verdicts.{share, AreAbove, AreAtLeast, AreAtMost, Supports, SEVEN, are_above, are_at_least, are_at_most, supported}
use Rattle.cj_bezier.proofs.SevenLemmas.{seven_cases}

decides_lt : (x y : ℤ) → Decides (int_lt x y) (x <ℤ y)
decides_lt x y = (λ e. grind (arith, ints), λ h. grind (arith, ints))

-- a test of each of the seven numbers decides a fact of each
decides_seven : (p : ℕ → Bool) (P : ℕ → Type 0) → ((k : ℕ) → Decides (p k) (P k)) → Decides (list_all p SEVEN) ((k : ℕ) → k < 7 → P k)
decides_seven p P each =
    let both = Decides-by_and p P (list_all p) each refl (λ _ _. refl) SEVEN in
    (λ t. to P (both.0 t), λ h. both.1 (back P h))
  where
    to : (P : ℕ → Type 0) → All P SEVEN → (k : ℕ) → k < 7 → P k
    to P h = seven_cases P (h 0 0 (omega arith)) (h 1 0 (omega arith)) (h 2 0 (omega arith)) (h 3 0 (omega arith)) (h 4 0 (omega arith)) (h 5 0 (omega arith)) (h 6 0 (omega arith))

    back : (P : ℕ → Type 0) → ((k : ℕ) → k < 7 → P k) → All P SEVEN
    back P h k d l =
        seven_cases (λ k. P (slice_index_or SEVEN k d)) (h 0 (omega arith)) (h 1 (omega arith)) (h 2 (omega arith)) (h 3 (omega arith)) (h 4 (omega arith)) (h 5 (omega arith)) (h 6 (omega arith)) k l

pub decides_above : (ends : List ℤ) (e : ℕ) → Decides (are_above ends e) (AreAbove ends e)
unfolding are_above AreAbove
decides_above ends e = decides_seven (λ k. int_lt (share e k) (slice_index_or ends k (pos 0))) (λ k. share e k <ℤ slice_index_or ends k (pos 0)) (λ k. decides_lt _ _)

pub decides_at_least : (ends : List ℤ) (e : ℕ) → Decides (are_at_least ends e) (AreAtLeast ends e)
unfolding are_at_least AreAtLeast
decides_at_least ends e = decides_seven (λ k. int_le (share e k) (slice_index_or ends k (pos 0))) (λ k. share e k ≤ℤ slice_index_or ends k (pos 0)) (λ k. decides_le _ _)

pub decides_at_most : (ends : List ℤ) (e : ℕ) → Decides (are_at_most ends e) (AreAtMost ends e)
unfolding are_at_most AreAtMost
decides_at_most ends e = decides_seven (λ k. int_le (slice_index_or ends k (pos 0)) (share e k)) (λ k. slice_index_or ends k (pos 0) ≤ℤ share e k) (λ k. decides_le _ _)

-- the test of a kind decides its support
pub decides_supports : (g : PlainGap) (thr : ℕ) (kind : Kind) → Decides (supported g thr kind) (Supports g thr kind)
decides_supports g thr kinds.Far = decides_above g.low thr
decides_supports g thr kinds.Near = decides_at_most g.high thr
decides_supports g thr kinds.Undecided = Decides-and _ _ (decides_at_least g.low (thr - BAND)) (decides_at_most g.high (thr + BAND))

-- ---- seven spans beside the seven binomial coefficients

abbrev pub CHOOSE6 : List ℕ
CHOOSE6 = 1 ∷ 6 ∷ 15 ∷ 20 ∷ 15 ∷ 6 ∷ 1 ∷ []

-- what holds of each seven spans holds of each list of seven
seven_spans : (P : List Span → Type 0) → ((a b c d e f g : Span) → P (a ∷ b ∷ c ∷ d ∷ e ∷ f ∷ g ∷ [])) → (xs : List Span) → length xs ≡ 7 → P xs
seven_spans P h [] l = absurd (omega arith)
seven_spans P h (a ∷ []) l = absurd (omega arith)
seven_spans P h (a ∷ b ∷ []) l = absurd (omega arith)
seven_spans P h (a ∷ b ∷ c ∷ []) l = absurd (omega arith)
seven_spans P h (a ∷ b ∷ c ∷ d ∷ []) l = absurd (omega arith)
seven_spans P h (a ∷ b ∷ c ∷ d ∷ e ∷ []) l = absurd (omega arith)
seven_spans P h (a ∷ b ∷ c ∷ d ∷ e ∷ f ∷ []) l = absurd (omega arith)
seven_spans P h (a ∷ b ∷ c ∷ d ∷ e ∷ f ∷ g ∷ []) l = h a b c d e f g
seven_spans P h (a ∷ b ∷ c ∷ d ∷ e ∷ f ∷ g ∷ i ∷ xs) l = absurd (omega arith)

pub zipped_above : (xs : List Span) (e : ℕ) → length xs ≡ 7 → list_all (λ (p : Span × ℕ). int_lt (pos (p.1 * (e * e))) p.0.lo) (zip xs CHOOSE6) ≡ are_above (lows xs) e
unfolding are_above
zipped_above xs e l = seven_spans (λ xs. list_all (λ (p : Span × ℕ). int_lt (pos (p.1 * (e * e))) p.0.lo) (zip xs CHOOSE6) ≡ are_above (lows xs) e) (λ a b c d e f g. refl) xs l

pub zipped_at_least : (xs : List Span) (e : ℕ) → length xs ≡ 7 → list_all (λ (p : Span × ℕ). int_le (pos (p.1 * (e * e))) p.0.lo) (zip xs CHOOSE6) ≡ are_at_least (lows xs) e
unfolding are_at_least
zipped_at_least xs e l = seven_spans (λ xs. list_all (λ (p : Span × ℕ). int_le (pos (p.1 * (e * e))) p.0.lo) (zip xs CHOOSE6) ≡ are_at_least (lows xs) e) (λ a b c d e f g. refl) xs l

pub zipped_at_most : (xs : List Span) (e : ℕ) → length xs ≡ 7 → list_all (λ (p : Span × ℕ). int_le p.0.hi (pos (p.1 * (e * e)))) (zip xs CHOOSE6) ≡ are_at_most (highs xs) e
unfolding are_at_most
zipped_at_most xs e l = seven_spans (λ xs. list_all (λ (p : Span × ℕ). int_le p.0.hi (pos (p.1 * (e * e)))) (zip xs CHOOSE6) ≡ are_at_most (highs xs) e) (λ a b c d e f g. refl) xs l
