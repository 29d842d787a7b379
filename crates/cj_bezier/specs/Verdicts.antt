-- Verdicts: what the ends of a gap say of the distance at each tick.
use Rattle.std.specs.Prelude.{ℕ, zero, suc, ◌+◌, ◌-◌, ◌*◌, ◌<◌, ◌≤◌, ℤ, pos, ◌≤ℤ◌, ◌<ℤ◌, int_lt, int_le, Bool, ◌&&◌, if◌then◌else◌, List, [], ◌∷◌, slice_index_or, Option, Some, None}
use Rattle.std.specs.List.{list_all}
use Rattle.cj_hermite.specs.Interpolant.{Curve}
use Rattle.cj_hermite.specs.Distance.{IsFar, IsNear, IsInBand, BAND}
use Rattle.cj_case.specs.declared.kind.Kind.{Kind}
use Rattle.cj_case.specs.declared.kind.Kind.TheVariants as kinds
use Rattle.cj_bezier.specs.declared.verdicts.Verdict.{Verdict}
use Rattle.cj_bezier.specs.declared.verdicts.Verdict.TheVariants as verdicts
use Rattle.cj_bezier.specs.Gaps.{PlainGap, gap_terms, hull_gap}

-- C(6,k)
abbrev pub choose6 : ℕ → ℕ
choose6 zero = 1
choose6 (suc zero) = 6
choose6 (suc (suc zero)) = 15
choose6 (suc (suc (suc zero))) = 20
choose6 (suc (suc (suc (suc zero)))) = 15
choose6 (suc (suc (suc (suc (suc zero))))) = 6
choose6 (suc (suc (suc (suc (suc (suc n)))))) = 1

-- coefficient k of the square of e: C(6,k) e²
abbrev pub share : ℕ → ℕ → ℤ
share e k = pos (choose6 k * (e * e))

-- each of seven ends exceeds C(6,k) e²
unfoldable pub AreAbove : List ℤ → ℕ → Type 0
AreAbove ends e = (k : ℕ) → k < 7 → share e k <ℤ slice_index_or ends k (pos 0)

-- each of seven ends is at least C(6,k) e²
unfoldable pub AreAtLeast : List ℤ → ℕ → Type 0
AreAtLeast ends e = (k : ℕ) → k < 7 → share e k ≤ℤ slice_index_or ends k (pos 0)

-- each of seven ends is at most C(6,k) e²
unfoldable pub AreAtMost : List ℤ → ℕ → Type 0
AreAtMost ends e = (k : ℕ) → k < 7 → slice_index_or ends k (pos 0) ≤ℤ share e k

-- the support of a kind: what the ends of a gap are to meet
abbrev pub Supports : PlainGap → ℕ → Kind → Type 0
Supports g thr kinds.Far = AreAbove g.low thr
Supports g thr kinds.Near = AreAtMost g.high thr
Supports g thr kinds.Undecided = AreAtLeast g.low (thr - BAND) × AreAtMost g.high (thr + BAND)

-- ---- the same as tests

-- the numbers of the coefficients
abbrev pub SEVEN : List ℕ
SEVEN = 0 ∷ 1 ∷ 2 ∷ 3 ∷ 4 ∷ 5 ∷ 6 ∷ []

unfoldable pub are_above : List ℤ → ℕ → Bool
are_above ends e = list_all (λ k. int_lt (share e k) (slice_index_or ends k (pos 0))) SEVEN

unfoldable pub are_at_least : List ℤ → ℕ → Bool
are_at_least ends e = list_all (λ k. int_le (share e k) (slice_index_or ends k (pos 0))) SEVEN

unfoldable pub are_at_most : List ℤ → ℕ → Bool
are_at_most ends e = list_all (λ k. int_le (slice_index_or ends k (pos 0)) (share e k)) SEVEN

-- whether a kind is supported
abbrev pub supported : PlainGap → ℕ → Kind → Bool
supported g thr kinds.Far = are_above g.low thr
supported g thr kinds.Near = are_at_most g.high thr
supported g thr kinds.Undecided = are_at_least g.low (thr - BAND) && are_at_most g.high (thr + BAND)

-- the first supported of far, near and undecided, else split
unfoldable pub verdict_of : PlainGap → ℕ → Verdict
verdict_of g thr =
    if supported g thr kinds.Far then verdicts.Far
    else (if supported g thr kinds.Near then verdicts.Near
    else (if supported g thr kinds.Undecided then verdicts.Undecided
    else verdicts.Split))

-- the kind that a verdict gives; a split gives none
abbrev pub kind_of : Verdict → Option Kind
kind_of verdicts.Far = Some kinds.Far
kind_of verdicts.Near = Some kinds.Near
kind_of verdicts.Undecided = Some kinds.Undecided
kind_of verdicts.Split = None

-- ---- what a kind says of two interpolants

-- at tick m
abbrev pub Holds : Kind → Curve → Curve → ℕ → ℕ → Type 0
Holds kinds.Far a b thr m = IsFar a b thr m
Holds kinds.Near a b thr m = IsNear a b thr m
Holds kinds.Undecided a b thr m = IsInBand a b thr m

-- at each tick from first to last
unfoldable pub HoldsThroughout : Kind → Curve → Curve → ℕ → ℕ → ℕ → Type 0
HoldsThroughout kind a b thr first last = (m : ℕ) → first ≤ m → m ≤ last → Holds kind a b thr m

-- the verdict on two interpolants over the ticks from first to last
unfoldable pub cell_verdict : Curve → Curve → ℕ → ℕ → ℕ → Verdict
cell_verdict a b thr first last = verdict_of (gap_terms (hull_gap a b first last)) thr
