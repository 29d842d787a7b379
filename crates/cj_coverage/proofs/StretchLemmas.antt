-- Spans of ticks with a state, one after another.
use Rattle.std.proofs.Common.{◌≡◌, ℕ, suc, ◌+◌, ◌-◌, ◌<◌, ◌≤◌, max, false, List, [], ◌∷◌, ◌++◌, map, length, get_or, Option, Some, None, refl, sym, ap, subst, ◌∙◌, inl, inr, append-nil, append_assoc, arith}
use Rattle.std.specs.Prelude.{◌↔◌, Any, MatchOption, is_some}
use Rattle.std.specs.List.{range_with_len}
use Rattle.std.proofs.lemmas.Bool.{cases_lt}
use Rattle.std.proofs.lemmas.List.{get_or_default, map-append}
use Rattle.cj_base.specs.declared.tick.Window.{Window}
use Rattle.cj_track.specs.declared.segment.Segment.{Segment}
use Rattle.cj_track.specs.declared.track.Track.{Track}
use Rattle.cj_track.specs.PlainTracks.{PlainTrack}
use Rattle.cj_track.specs.Segments.{AreInOrder}
use Rattle.cj_track.specs.Tracks.{plain_track}
use Rattle.cj_hermite.specs.CommonRuns.{Run, is_same, run_of, runs_over, runs_between}
use Rattle.cj_hermite.specs.Pieces.{piece_at}
use Rattle.cj_hermite.specs.Walks.{AreEnded, HasNone, IsNextState}
use Rattle.cj_hermite.proofs.CommonRunLemmas.{skipped, taken}
use Rattle.cj_hermite.proofs.SpanLemmas.{next_of, state_in_span}
use Rattle.cj_coverage.specs.Coverage.{AreApart, HasAll, IsCovered, IsIn, covered_spans, one_label, state_label}
use Rattle.cj_coverage.specs.Stretches.{IsNextSpan, IsNextStretch}
use Rattle.cj_coverage.proofs.CoverageLemmas.{apart, exact, label_of}

-- ---- the stretch of a segment

stretch_in : (track : Track) (from p : ℕ) (d x : Segment) (w : Window) → AreEnded from track.segments p → p < length track.segments → IsNextState (plain_track track) from w.first.micros
    → w.first.micros ≡ max (get_or track.segments p d).first.micros from → w.last.micros ≡ (get_or track.segments p x).last.micros → IsNextStretch (plain_track track) from w
stretch_in track from p d x w ended lt next first last =
    let same = ap (λ (s : Segment). s.last.micros) (get_or_default track.segments p x d lt) in
    let ends = ended.behind p d (omega arith) lt in
    let own = (get_or track.segments p d).some in
    record {
      next = next;
      some = omega (arith, first, last, ends, own, same);
      all = λ m low high. state_in_span track m p d lt (omega (arith, low, first)) (omega (arith, high, last, same));
    }

-- the same of the segments as they are read
pub stretch_of : (track : Track) (segments : List Segment) (from p : ℕ) (d x : Segment) (w : Window) → segments ≡ track.segments → AreInOrder segments → AreEnded from segments p
    → (p ≡ length segments → ⊥) → w.first.micros ≡ max (get_or segments p d).first.micros from → w.last.micros ≡ (get_or segments p x).last.micros → IsNextStretch (plain_track track) from w
stretch_of track segments from p d x w same order ended more first last =
    let next = next_of track segments from p w.first.micros d same order ended more first in
    subst (λ (ss : List Segment). AreEnded from ss p → (p ≡ length ss → ⊥) → w.first.micros ≡ max (get_or ss p d).first.micros from
    → w.last.micros ≡ (get_or ss p x).last.micros → IsNextStretch (plain_track track) from w)
    (sym same) (λ ended more first last. stretch_in track from p d x w ended (let bound = ended.bound in omega arith) next first last) ended more first last

-- ---- a stretch goes on

-- with the next one, which begins right behind it
pub longer : (e : PlainTrack) (from : ℕ) (first middle : ℕ) (next : Window) → HasAll e first middle → middle + 1 ≡ from → next.first.micros ≤ from → IsNextStretch e from next
    → HasAll e first next.last.micros
longer e from first middle next all behind begins is m low high = elim (cases_lt middle m) [
  | inl after ↦ is.all m (omega (arith, after, behind, begins)) high
  | inr upto ↦ all m low upto
]

-- ---- the first span

no_label : (o : Option ℕ) → o ≡ None → one_label o ≡ None
no_label o none = ap one_label none

pub none_covered : (e : PlainTrack) (from last : ℕ) → HasNone e from last → covered_spans e from last ≡ []
unfolding covered_spans runs_between
none_covered e from last none =
    let n = last + 1 - from in
    let all : n ≡ n + 0 = omega arith in
    rw all (skipped (state_label e) from n 0 (λ k low high. no_label (piece_at e k) (none k low (omega arith))))

-- it stands in front of those behind it
pub next_covered : (e : PlainTrack) (from last : ℕ) (span : Window) → IsNextSpan e from last span → covered_spans e from last ≡ run_of span ∷ covered_spans e (span.last.micros + 1) last
unfolding covered_spans runs_between
next_covered e from last span is =
    let first = span.first.micros in
    let end = span.last.micros in
    let label = state_label e in
    let j = first - from in
    let k = end - first in
    let n = last + 1 - (end + 1) in
    let count : last + 1 - from ≡ j + (suc k + n) = omega (arith, is.later, is.some, is.within) in
    let at : from + j ≡ first = omega (arith, is.later) in
    let here : (m : ℕ) → first ≤ m → m ≤ end → label m ≡ Some (0, 0) = λ m low high. label_of (piece_at e m) (is.all m low high) in
    let first_label : label first ≡ Some (0, 0) = here first (omega arith) is.some in
    let apart : 0 < n → is_same (label end) (label (end + 1)) ≡ false = λ more.
    let last_label = here end is.some (omega arith) in
    let behind : label (end + 1) ≡ None = no_label (piece_at e (end + 1)) (is.ends (omega arith)) in
    rw (last_label, behind) refl in
    rw count
    (skipped label from j (suc k + n) (λ m low high. no_label (piece_at e m) (is.none m low (omega arith)))
    ∙ ap (λ (m : ℕ). runs_over label (range_with_len m (suc k + n))) at
    ∙ taken label k first end n (omega (arith, is.some)) (ap is_some first_label) (λ m low high. here m low high ∙ sym first_label) apart)

-- ---- spans one after another

-- the spans that are found with one more
pub one_more : (e : PlainTrack) (from last : ℕ) (made more : List Window) (span : Window) (whole : List Run) → IsNextSpan e from last span → map run_of made ++ covered_spans e from last ≡ whole
    → more ≡ made ++ span ∷ [] → map run_of more ++ covered_spans e (span.last.micros + 1) last ≡ whole
one_more e from last made more span whole is before pushed =
    let behind = covered_spans e (span.last.micros + 1) last in
    ap (λ (ws : List Window). map run_of ws ++ behind) pushed
    ∙ ap (λ (rs : List Run). rs ++ behind) (map-append run_of made (span ∷ []))
    ∙ append_assoc (map run_of made) (run_of span ∷ []) behind
    ∙ ap (λ (rs : List Run). map run_of made ++ rs) (sym (next_covered e from last span is))
    ∙ before

-- all of them, where the last one ends with the last tick, or no tick with a state is left
pub all_made : (e : PlainTrack) (from last : ℕ) (made : List Window) (whole : List Run) → HasNone e from last → map run_of made ++ covered_spans e from last ≡ whole → map run_of made ≡ whole
all_made e from last made whole none before =
    sym (append-nil (map run_of made)) ∙ ap (λ (rs : List Run). map run_of made ++ rs) (sym (none_covered e from last none)) ∙ before

-- what was not found is not there
pub none_here : {A : Type 0} (o : Option A) (P : Type 0) (Q : A → Type 0) → MatchOption o P Q → ((x : A) → o ≡ Some x → ⊥) → P
none_here None P Q none other = none
none_here (Some x) P Q some other = absurd (other x refl)

pub none_behind : (e : PlainTrack) (end last : ℕ) → end ≡ last → HasNone e (end + 1) last
none_behind e end last at m low high = absurd (omega (arith, low, high, at))

-- what is the list of the definition holds the ticks and is apart
pub exact_spans : (e : PlainTrack) (first last : ℕ) (spans : List Run) → spans ≡ covered_spans e first last → (m : ℕ) → Any (IsIn m) spans ↔ IsCovered e first last m
exact_spans e first last spans is m = subst (λ (rs : List Run). Any (IsIn m) rs ↔ IsCovered e first last m) (sym is) (exact e first last m)

pub apart_spans : (e : PlainTrack) (first last : ℕ) (spans : List Run) → spans ≡ covered_spans e first last → AreApart spans
apart_spans e first last spans is = subst AreApart (sym is) (apart e first last)
