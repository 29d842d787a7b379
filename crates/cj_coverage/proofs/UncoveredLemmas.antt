-- The first tick of a range without a state.
use Rattle.std.proofs.Common.{◌≡◌, ℕ, zero, suc, ◌+◌, ◌-◌, ◌<◌, ◌≤◌, ◌⊎◌, Bool, true, false, cond, not, inl, inr, List, [], ◌∷◌, map, Option, Some, None, refl, sym, ap, ◌∙◌, add-zero, zero-add, arith}
use Rattle.std.specs.Prelude.{count_by, is_some, option_map}
use Rattle.std.specs.List.{find, range_with_len}
use Rattle.std.proofs.lemmas.Bool.{cases_eq, cases_lt}
use Rattle.std.proofs.lemmas.List.Sums.{sum_by-cons}
use Rattle.cj_base.specs.PlainTicks.{micros_of}
use Rattle.cj_base.specs.declared.tick.Tick.{Tick}
use Rattle.cj_base.specs.declared.tick.Window.{Window}
use Rattle.cj_track.specs.PlainTracks.{PlainTrack}
use Rattle.cj_track.specs.Tracks.{plain_track}
use Rattle.cj_track.specs.declared.track.Track.{Track}
use Rattle.cj_hermite.specs.Pieces.{piece_at}
use Rattle.cj_hermite.specs.Walks.{HasNone}
use Rattle.cj_coverage.specs.Coverage.{HasAll, first_uncovered, is_uncovered}
use Rattle.cj_coverage.specs.Stretches.{IsNextSpan}

-- ticks that do not pass are left out
passed_by : (p : ℕ → Bool) (m j n : ℕ) → ((k : ℕ) → m ≤ k → k < m + j → p k ≡ false) → find p (range_with_len m (j + n)) ≡ find p (range_with_len (m + j) n)
passed_by p m zero n none = rw (zero-add, add-zero)
passed_by p m (suc j) n none =
    let more : suc j + n ≡ suc (j + n) = omega arith in
    let behind : m + suc j ≡ m + 1 + j = omega arith in
    let here : p m ≡ false = none m (omega arith) (omega arith) in
    rw (more, behind, here) (passed_by p (m + 1) j n (λ k low high. none k (omega arith) (omega arith)))

-- where there are no ticks
pub none_empty : (e : PlainTrack) (first last : ℕ) → last < first → first_uncovered e first last ≡ None
unfolding first_uncovered
none_empty e first last past =
    let none : last + 1 - first ≡ 0 = omega arith in
    ap (λ (n : ℕ). find (is_uncovered e) (range_with_len first n)) none

-- where each tick has a state
pub none_left : (e : PlainTrack) (first last : ℕ) → HasAll e first last → first_uncovered e first last ≡ None
unfolding first_uncovered
none_left e first last all =
    let n = last + 1 - first in
    let whole : n ≡ n + 0 = omega arith in
    rw whole (passed_by (is_uncovered e) first n 0 (λ k low high. ap not (all k low (omega arith))))

-- where each tick before one has a state, and this has none
pub first_at : (e : PlainTrack) (first last at : ℕ) → first ≤ at → at ≤ last → ((m : ℕ) → first ≤ m → m < at → is_some (piece_at e m) ≡ true) → piece_at e at ≡ None → first_uncovered e first last ≡ Some at
unfolding first_uncovered
first_at e first last at low high all none =
    let j = at - first in
    let n = last - at in
    let count : last + 1 - first ≡ j + suc n = omega arith in
    let there : first + j ≡ at = omega arith in
    let here : is_uncovered e at ≡ true = ap (λ (o : Option ℕ). not (is_some o)) none in
    rw count (passed_by (is_uncovered e) first j (suc n) (λ k low high. ap not (all k low (omega arith))) ∙ ap (λ (m : ℕ). find (is_uncovered e) (range_with_len m (suc n))) there ∙ rw here refl)

-- by the first span of the range, or that there is none
pub none_found : (e : PlainTrack) (window : Window) → window.first.micros ≤ window.last.micros → HasNone e window.first.micros window.last.micros
    → first_uncovered e window.first.micros window.last.micros ≡ Some window.first.micros
none_found e window some none =
    first_at e window.first.micros window.last.micros window.first.micros (omega arith) some (λ m low high. absurd (omega (arith, low, high))) (none window.first.micros (omega arith) some)

pub one_found : (e : PlainTrack) (window span : Window) (o : Option Tick) → window.first.micros ≤ window.last.micros → IsNextSpan e window.first.micros window.last.micros span
    → (window.first.micros < span.first.micros → option_map micros_of o ≡ Some window.first.micros)
    → (span.first.micros ≤ window.first.micros → span.last.micros < window.last.micros → option_map micros_of o ≡ Some (span.last.micros + 1))
    → (span.first.micros ≤ window.first.micros → window.last.micros ≤ span.last.micros → option_map micros_of o ≡ None)
    → option_map micros_of o ≡ first_uncovered e window.first.micros window.last.micros
one_found e window span o some is before behind none =
    let first = window.first.micros in
    let last = window.last.micros in
    elim (cases_lt first span.first.micros) [
      | inl later ↦
          before later
          ∙ sym (first_at e first last first (omega arith) some (λ m low high. absurd (omega (arith, low, high))) (is.none first (omega arith) later))
      | inr here ↦ elim (cases_lt span.last.micros last) [
        | inl more ↦
            behind here more
            ∙ sym (first_at e first last (span.last.micros + 1) (omega (arith, is.some, is.later)) (omega (arith, more))
            (λ m low high. is.all m (omega (arith, low, here)) (omega (arith, high))) (is.ends more))
        | inr all ↦ none here all ∙ sym (none_left e first last (λ m low high. is.all m (omega (arith, low, here)) (omega (arith, high, all))))
      ]
    ]

-- where the first of some ticks does not pass, the others do not either
first_fails : (p : ℕ → Bool) (m n k : ℕ) → find p (range_with_len m (suc n)) ≡ None → (k ≡ m) ⊎ (k ≡ m → ⊥)
    → (find p (range_with_len (m + 1) n) ≡ None → (k ≡ m → ⊥) → p k ≡ false) → p k ≡ false
first_fails p m n k none which others = go (p m) refl none which
  where
    go : (b : Bool) → p m ≡ b → cond b (Some m) (find p (range_with_len (m + 1) n)) ≡ None → (k ≡ m) ⊎ (k ≡ m → ⊥) → p k ≡ false
    go true passes is which = absurd cc
    go false fails is (inl same) = rw same fails
    go false fails is (inr other) = others is other

-- where no tick passes, each fails
none_passes : (p : ℕ → Bool) (m n : ℕ) → find p (range_with_len m n) ≡ None → (k : ℕ) → m ≤ k → k < m + n → p k ≡ false
none_passes p m zero none k low high = absurd (omega (arith, low, high))
none_passes p m (suc n) none k low high =
    first_fails p m n k none (cases_eq k m) (λ is other. none_passes p (m + 1) n is k (omega (arith, low, other)) (omega (arith, high)))

has_state : (o : Option ℕ) → not (is_some o) ≡ false → is_some o ≡ true
has_state None h = absurd cc
has_state (Some n) h = refl

-- where none is missing, each tick has a state
pub none_missing : (e : PlainTrack) (first last : ℕ) → first_uncovered e first last ≡ None → HasAll e first last
unfolding first_uncovered
none_missing e first last none m low high =
    has_state (piece_at e m) (none_passes (is_uncovered e) first (last + 1 - first) none m low (omega (arith, low, high)))

-- ---- how many objects leave out a tick

pub mapped_some : (o : Option Tick) → is_some (option_map micros_of o) ≡ is_some o
mapped_some None = refl
mapped_some (Some t) = refl

pub counted : (p : PlainTrack → Bool) (tracks : List Track) → count_by (λ t. p (plain_track t)) tracks ≡ count_by p (map plain_track tracks)
counted p [] = refl
counted p (t ∷ tracks) =
    sum_by-cons (λ x. cond (p (plain_track x)) 1 0) t tracks
    ∙ ap (λ (n : ℕ). cond (p (plain_track t)) 1 0 + n) (counted p tracks)
    ∙ sym (sum_by-cons (λ x. cond (p x) 1 0) (plain_track t) (map plain_track tracks))
