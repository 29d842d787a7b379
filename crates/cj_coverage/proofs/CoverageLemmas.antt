-- Covered spans hold the ticks at which there is a state, and no others, and are apart.
use Rattle.std.proofs.Common.{◌≡◌, ℕ, zero, suc, ◌+◌, ◌-◌, ◌<◌, ◌≤◌, Bool, true, false, cond, eqb, ◌&&◌, List, [], ◌∷◌, Option, Some, None, refl, sym, ap, ◌∙◌, inl, inr, arith}
use Rattle.std.specs.Prelude.{◌↔◌, is_some, Any}
use Rattle.std.specs.List.{range_with_len}
use Rattle.std.proofs.lemmas.Bool.{cases_eq, cases_lt, eq-eqb, and_from, false_from_ne_true, eqb-true, and_parts}
use Rattle.cj_track.specs.PlainTracks.{PlainTrack}
use Rattle.cj_hermite.specs.CommonRuns.{Run, is_same, with_tick, runs_over, runs_between}
use Rattle.cj_hermite.specs.Pieces.{piece_at}
use Rattle.cj_hermite.proofs.CommonRunLemmas.{AreRuns, Has, runs_are, runs_have}
use Rattle.cj_interval.proofs.ListLemmas.{Exists, Any-from_exists, exists_from_Any}
use Rattle.cj_coverage.specs.Coverage.{AreApart, IsCovered, IsIn, covered_spans, one_label, state_label}

-- ---- the label tells whether there is a state

pub label_of : (o : Option ℕ) → is_some o ≡ true → one_label o ≡ Some (0, 0)
label_of None some = absurd cc
label_of (Some n) some = refl

some_label : (o : Option ℕ) → is_some (one_label o) ≡ is_some o
some_label None = refl
some_label (Some n) = refl

-- ---- a tick is in a span exactly where it is covered

in_run : (e : PlainTrack) (m lo hi : ℕ) (rs : List Run) → AreRuns (state_label e) lo hi rs → Exists (IsIn m) rs → (lo ≤ m) × (m < hi) × (is_some (piece_at e m) ≡ true)
in_run e m lo hi [] are has = absurd has
in_run e m lo hi (r ∷ rs) are (inl here) =
    let run = are.0 in (
      omega (arith, run.from, here.from),
      omega (arith, run.to, here.to),
      sym (some_label (piece_at e m)) ∙ ap is_some (run.same m here.from here.to) ∙ run.labelled,
    )
in_run e m lo hi (r ∷ rs) are (inr later) =
    let run = are.0 in
    let rest = in_run e m (r.last + 1) hi rs are.1 later in
    (omega (arith, run.from, run.some, rest.0), rest.1, rest.2)

has_in : (m : ℕ) (rs : List Run) → Exists (Has m) rs → Exists (IsIn m) rs
has_in m [] has = absurd has
has_in m (r ∷ rs) (inl here) = inl (record { from = here.from; to = here.to })
has_in m (r ∷ rs) (inr later) = inr (has_in m rs later)

covered_from : (e : PlainTrack) (first last m : ℕ) → Exists (IsIn m) (covered_spans e first last) → IsCovered e first last m
unfolding covered_spans runs_between
covered_from e first last m has = elim (cases_lt (last + 1) first) [
  | inl past ↦
      let none : last + 1 - first ≡ 0 = omega arith in
      let empty : runs_over (state_label e) (range_with_len first (last + 1 - first)) ≡ [] = ap (λ (n : ℕ). runs_over (state_label e) (range_with_len first n)) none in
      absurd (rw empty at has)
  | inr le ↦
      let found = in_run e m first (last + 1) (runs_over (state_label e) (range_with_len first (last + 1 - first)))
      (runs_are (state_label e) first (last + 1 - first) (last + 1) (omega arith)) has in
      record { after = found.0; before = omega (arith, found.1); state = found.2 }
]

covered_in : (e : PlainTrack) (first last m : ℕ) → IsCovered e first last m → Exists (IsIn m) (covered_spans e first last)
unfolding covered_spans runs_between
covered_in e first last m is =
    has_in m (runs_over (state_label e) (range_with_len first (last + 1 - first)))
    (runs_have (state_label e) first (last + 1 - first) m is.after (omega (arith, is.after, is.before)) (some_label (piece_at e m) ∙ is.state))

pub exact : (e : PlainTrack) (first last m : ℕ) → Any (IsIn m) (covered_spans e first last) ↔ IsCovered e first last m
exact e first last m = (
  λ any. covered_from e first last m (exists_from_Any (IsIn m) (covered_spans e first last) any),
  λ is. Any-from_exists (IsIn m) (covered_spans e first last) (covered_in e first last m is),
)

-- ---- spans are apart

-- the label of a tick with a state
is_one : (e : PlainTrack) (m : ℕ) → is_some (state_label e m) ≡ true → state_label e m ≡ Some (0, 0)
is_one e m some = label_of (piece_at e m) (sym (some_label (piece_at e m)) ∙ some)

-- two ticks with a state have the same label
same_label : (e : PlainTrack) (m k : ℕ) → is_some (state_label e m) ≡ true → is_some (state_label e k) ≡ true → is_same (state_label e m) (state_label e k) ≡ true
same_label e m k first second =
    let p = is_one e m first in
    let q = is_one e k second in
    rw (p, q) refl

longer_apart : (m : ℕ) (r : Run) (rs : List Run) → m ≤ r.first → AreApart (r ∷ rs) → AreApart (record r { first = m } ∷ rs)
longer_apart m r [] le apart = omega (arith, le, apart)
longer_apart m r (s ∷ rs) le apart = (omega (arith, le, apart.0), apart.1)

front_apart : (e : PlainTrack) (m hi : ℕ) (rs : List Run) → is_some (state_label e m) ≡ true → AreRuns (state_label e) (m + 1) hi rs → AreApart rs → AreApart (with_tick (state_label e) m rs)
front_apart e m hi [] some are apart = omega arith
front_apart e m hi (r ∷ rs) some are apart = elim (cases_eq r.first (m + 1)) [
  | inl next ↦
      let same : eqb r.first (m + 1) && is_same (state_label e m) (state_label e r.first) ≡ true =
      and_from (eqb r.first (m + 1)) (is_same (state_label e m) (state_label e r.first)) (eq-eqb r.first (m + 1) next) (same_label e m r.first some are.0.labelled) in
      rw same (longer_apart m r rs (omega arith) apart)
  | inr not_next ↦
      let parted : eqb r.first (m + 1) && is_same (state_label e m) (state_label e r.first) ≡ false =
      false_from_ne_true (eqb r.first (m + 1) && is_same (state_label e m) (state_label e r.first))
      (λ both. not_next (eqb-true r.first (m + 1) (and_parts (eqb r.first (m + 1)) (is_same (state_label e m) (state_label e r.first)) both).0)) in
      rw parted (omega arith, (omega (arith, are.0.from), apart))
]

over_apart : (e : PlainTrack) (m n hi : ℕ) → m + n ≤ hi → AreApart (runs_over (state_label e) (range_with_len m n))
over_apart e m zero hi le = tt
over_apart e m (suc n) hi le = go (is_some (state_label e m)) refl (over_apart e (m + 1) n hi (omega arith))
  where
    go : (b : Bool) → is_some (state_label e m) ≡ b → AreApart (runs_over (state_label e) (range_with_len (m + 1) n))
        → AreApart (cond b (with_tick (state_label e) m (runs_over (state_label e) (range_with_len (m + 1) n))) (runs_over (state_label e) (range_with_len (m + 1) n)))
    go true some apart =
        front_apart e m (m + 1 + n) (runs_over (state_label e) (range_with_len (m + 1) n)) some (runs_are (state_label e) (m + 1) n (m + 1 + n) (omega arith)) apart
    go false none apart = apart

pub apart : (e : PlainTrack) (first last : ℕ) → AreApart (covered_spans e first last)
unfolding covered_spans runs_between
apart e first last = over_apart e first (last + 1 - first) (first + (last + 1 - first)) (omega arith)
