-- A walk through two tracks from one common run to the next.
use Rattle.std.proofs.Common.{◌≡◌, ℕ, suc, ◌+◌, ◌-◌, ◌<◌, ◌≤◌, min, max, false, [], ◌∷◌, Option, Some, None, refl, sym, ap, subst, ◌∙◌, inl, inr, arith}
use Rattle.std.specs.Prelude.{is_some}
use Rattle.std.specs.List.{range_with_len}
use Rattle.std.proofs.lemmas.Bool.{cases_lt, false_from_ne_true}
use Rattle.cj_base.specs.declared.tick.Window.{Window}
use Rattle.cj_track.specs.PlainTracks.{PlainTrack}
use Rattle.cj_hermite.specs.Pieces.{piece_at}
use Rattle.cj_hermite.specs.CommonRuns.{is_same, runs_over, runs_between, both, both_numbers}
use Rattle.cj_hermite.specs.Walks.{HasNone, IsNextRun}
use Rattle.cj_hermite.proofs.CommonRunLemmas.{same_from_is_same, skipped, taken}
use Rattle.cj_hermite.proofs.CurveLemmas.{same_numbers, some_both}

both_none : (i : Option ℕ) → both i None ≡ None
both_none None = refl
both_none (Some k) = refl

-- ticks without a label come to no run
no_runs : (label : ℕ → Option (ℕ × ℕ)) (from last : ℕ) → ((k : ℕ) → from ≤ k → k ≤ last → label k ≡ None) → runs_between label from last ≡ []
unfolding runs_between
no_runs label from last none =
    let n = last + 1 - from in
    let all : n ≡ n + 0 = omega arith in
    rw all (skipped label from n 0 (λ k low high. none k low (omega arith)))

-- where one of both has no state there is no common run
pub no_left : (e f : PlainTrack) (from last : ℕ) → HasNone e from last → runs_between (both_numbers e f) from last ≡ []
no_left e f from last none = no_runs (both_numbers e f) from last (λ k low high. ap (λ i. both i (piece_at f k)) (none k low high))

pub no_right : (e f : PlainTrack) (from last : ℕ) → HasNone f from last → runs_between (both_numbers e f) from last ≡ []
no_right e f from last none =
    no_runs (both_numbers e f) from last (λ k low high. ap (both (piece_at e k)) (none k low high) ∙ both_none (piece_at e k))

-- a next run has a tick
pub next_some : (e : PlainTrack) (from last : ℕ) (x : Window) → IsNextRun e from last x → x.first.micros ≤ x.last.micros
next_some e from last x is = elim (cases_lt x.last.micros x.first.micros) [
  | inl lt ↦
      let none : is_some (piece_at e x.last.micros) ≡ false = ap is_some (is.none x.last.micros is.later lt) in
      let some = is.some in
      absurd cc
  | inr le ↦ le
]

module _ (e f : PlainTrack) (from last first end : ℕ) (x y : Window) (left : IsNextRun e from last x) (right : IsNextRun f from last y) where
  none_before : first ≡ max x.first.micros y.first.micros → (k : ℕ) → from ≤ k → k < first → both_numbers e f k ≡ None
  none_before is k low high = elim (cases_lt k x.first.micros) [
    | inl before ↦ ap (λ i. both i (piece_at f k)) (left.none k low before)
    | inr behind ↦ ap (both (piece_at e k)) (right.none k low (omega arith)) ∙ both_none (piece_at e k)
  ]

  -- the label of the run in front
  label_here : (k : ℕ) → from ≤ k → x.first.micros ≤ k → y.first.micros ≤ k → k ≤ x.last.micros → k ≤ y.last.micros →
      both_numbers e f k ≡ both (piece_at e x.last.micros) (piece_at f y.last.micros)
  label_here k low after after' upto upto' =
      let p = left.same k low after upto in
      let q = right.same k low after' upto' in
      λ i. both (p i) (q i)

  apart : end ≡ min x.last.micros y.last.micros → end < last → both_numbers e f end ≡ both (piece_at e x.last.micros) (piece_at f y.last.micros) →
      is_same (both_numbers e f end) (both_numbers e f (end + 1)) ≡ false
  apart is more label =
      false_from_ne_true (is_same (both_numbers e f end) (both_numbers e f (end + 1))) (λ same.
      let next : both_numbers e f (end + 1) ≡ both (piece_at e x.last.micros) (piece_at f y.last.micros) = sym (same_from_is_same (both_numbers e f end) (both_numbers e f (end + 1)) same) ∙ label in
      let numbers = same_numbers (piece_at e (end + 1)) (piece_at f (end + 1)) (piece_at e x.last.micros) (piece_at f y.last.micros)
      (some_both (piece_at e x.last.micros) (piece_at f y.last.micros) left.some right.some) next in
      elim (cases_lt y.last.micros x.last.micros) [
        | inl less ↦ let at : end ≡ y.last.micros = omega arith in right.ends (omega arith) (ap (λ (k : ℕ). piece_at f (k + 1)) (sym at) ∙ numbers.1)
        | inr le ↦ let at : end ≡ x.last.micros = omega arith in left.ends (omega arith) (ap (λ (k : ℕ). piece_at e (k + 1)) (sym at) ∙ numbers.0)
      ])

  -- where the next runs of both begin there is still a tick to come
  pub first_within : first ≡ max x.first.micros y.first.micros → first ≤ last
  first_within is = omega (arith, next_some e from last x left, next_some f from last y right, left.within, right.within)

  -- before the later of the next runs there is no common tick
  pub common_later : first ≡ max x.first.micros y.first.micros → from ≤ first → runs_between (both_numbers e f) from last ≡ runs_between (both_numbers e f) first last
  unfolding runs_between
  common_later is low =
      let n : last + 1 - from ≡ (first - from) + (last + 1 - first) = omega (arith, first_within is) in
      let at : from + (first - from) ≡ first = omega arith in
      rw n (subst (λ (k : ℕ). runs_over (both_numbers e f) (range_with_len from ((first - from) + (last + 1 - first))) ≡ runs_over (both_numbers e f) (range_with_len k (last + 1 - first))) at
      (skipped (both_numbers e f) from (first - from) (last + 1 - first) (λ k low high. none_before is k low (omega arith))))

  -- where the next runs of both overlap, there is the next common run
  pub common_here : first ≡ max x.first.micros y.first.micros → end ≡ min x.last.micros y.last.micros → from ≤ first → first ≤ end →
      runs_between (both_numbers e f) from last ≡ record { first = first; last = end } ∷ runs_between (both_numbers e f) (end + 1) last
  unfolding runs_between
  common_here is_first is_end low some =
      let n : last + 1 - first ≡ suc (end - first) + (last + 1 - (end + 1)) = omega (arith, left.within) in
      let here = label_here first (omega arith) (omega arith) (omega arith) (omega arith) (omega arith) in
      common_later is_first low
      ∙ (rw n
      (taken (both_numbers e f) (end - first) first end (last + 1 - (end + 1)) (omega arith)
      (ap is_some here ∙ some_both (piece_at e x.last.micros) (piece_at f y.last.micros) left.some right.some)
      (λ k low' high. label_here k (omega arith) (omega arith) (omega arith) (omega arith) (omega arith) ∙ sym here)
      (λ more. apart is_end (omega arith) (label_here end (omega arith) (omega arith) (omega arith) (omega arith) (omega arith)))))
