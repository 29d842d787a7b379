-- Each test decides what it tests.
use Rattle.std.proofs.Common.{◌≡◌, ℕ, zero, suc, ◌+◌, ◌-◌, ◌<◌, ◌≤◌, Bool, true, false, ◌&&◌, ◌||◌, ◌⊎◌, List, [], ◌∷◌, ◌++◌, length, drop, Option, Some, None, refl, sym, ap, subst, inl, inr, arith}
use Rattle.std.specs.Prelude.{All, IsSomeAnd, ◌==◌, not, nat_le, ℤ, is_some, slice_get}
use Rattle.std.specs.Bool.{Decides}
use Rattle.std.specs.List.{list_all, list_any, range_with_len}
use Rattle.std.specs.Option.{option_map_or}
use Rattle.std.proofs.lemmas.Bool.{and_parts, cases_eq, leb-true, le-leb, not-true}
use Rattle.std.proofs.lemmas.Bool.Decides.{Decides-and, Decides-by_and, Decides-eqb}
use Rattle.cj_interval.proofs.IntegerLemmas.{decides_le}
use Rattle.cj_track.specs.PlainTracks.{PlainTrack}
use Rattle.cj_hermite.specs.Interpolant.{Four}
use Rattle.cj_hermite.specs.Pieces.{piece_holding, piece_at, curve_of_piece}
use Rattle.cj_case.specs.PlainProblems.{PlainProblem, threshold_of}
use Rattle.cj_case.specs.Slots.{slot_first, slot_last}
use Rattle.cj_hermite.specs.Walks.{HasNone}
use Rattle.cj_case.specs.declared.shells.Shell.{Shell}
use Rattle.cj_bezier.specs.Gaps.{gap_terms, hull_gap}
use Rattle.cj_bezier.specs.Hulls.{PlainHull}
use Rattle.cj_case.specs.Leaves.{PlainLeaf}
use Rattle.cj_bezier.specs.Parts.{hulls_of}
use Rattle.cj_case.specs.Boxes.{PlainBox}
use Rattle.cj_bezier.specs.SlotBoxes.{IsAtMostEach, IsAtLeastEach}
use Rattle.cj_bezier.specs.Verdicts.{are_at_least}
use Rattle.cj_bezier.proofs.TestLemmas.{decides_at_least, decides_at_most as decides_at_most_ends, decides_supports}
use Rattle.cj_cert.specs.Accepted.{ShowsRadii, IsShellOver, IsHullIn, HoldsHulls, IsSupported}
use Rattle.cj_cert.specs.Certificates.{PlainBoxLine}
use Rattle.cj_checker.specs.Tests.{has_state_between, shows_radii, is_shell_over, is_at_most_each, is_at_least_each, is_hull_in, holds_in_slot, holds_hulls, are_in_front, is_supported}

-- ---- tests of every kind

-- a test decides what is the same
pub decides_same : {P Q : Type 0} (b : Bool) → (P → Q) → (Q → P) → Decides b P → Decides b Q
decides_same b to from d = (λ yes. to (d.0 yes), λ q. d.1 (from q))

-- a test that something is not so, the other way round
pub decides_other : {P : Type 0} (b : Bool) → Decides (not b) P → Decides b (¬ P)
decides_other true d = (λ yes p. let wrong : false ≡ true = d.1 p in absurd cc, λ h. refl)
decides_other false d = (λ yes. absurd cc, λ h. absurd (h (d.0 refl)))

-- of what is there
decides_some : {A : Type 0} (p : A → Bool) (P : A → Type 0) → ((x : A) → Decides (p x) (P x)) → (o : Option A) → Decides (option_map_or p o false) (IsSomeAnd o P)
decides_some p P each None = (λ yes. absurd cc, λ h. absurd h)
decides_some p P each (Some x) = each x

-- of each number
decides_range : (p : ℕ → Bool) (P : ℕ → Type 0) → ((k : ℕ) → Decides (p k) (P k)) → (a n : ℕ) → Decides (list_all p (range_with_len a n)) ((k : ℕ) → a ≤ k → k < a + n → P k)
decides_range p P each a zero = (λ yes k low high. absurd (omega arith), λ h. refl)
decides_range p P each a (suc n) =
    let rest = decides_range p P each (a + 1) n in (
      λ yes k low high.
          let both = and_parts (p a) (list_all p (range_with_len (a + 1) n)) yes in
          elim (cases_eq k a) [
            | inl same ↦ subst P (sym same) ((each a).0 both.0)
            | inr other ↦ rest.0 both.1 k (omega arith) (omega arith)
          ],
      λ h.
          let here = (each a).1 (h a (omega arith) (omega arith)) in
          let more = rest.1 (λ k low high. h k (omega arith) (omega arith)) in
          rw (here, more) refl,
    )

neither : (x y : Bool) → not (x || y) ≡ true → (x ≡ false) × (not y ≡ true)
neither true y h = absurd cc
neither false y h = (refl, h)

-- that none of the numbers passes a test
decides_no : (p : ℕ → Bool) (a n : ℕ) → Decides (not (list_any p (range_with_len a n))) ((k : ℕ) → a ≤ k → k < a + n → p k ≡ false)
decides_no p a zero = (λ yes k low high. absurd (omega arith), λ h. refl)
decides_no p a (suc n) =
    let rest = decides_no p (a + 1) n in (
      λ yes k low high.
          let both = neither (p a) (list_any p (range_with_len (a + 1) n)) yes in
          elim (cases_eq k a) [
            | inl same ↦ subst (λ (i : ℕ). p i ≡ false) (sym same) both.0
            | inr other ↦ rest.0 both.1 k (omega arith) (omega arith)
          ],
      λ h.
          let here : p a ≡ false = h a (omega arith) (omega arith) in
          let more = rest.1 (λ k low high. h k (omega arith) (omega arith)) in
          rw here more,
    )

-- ---- shells

no_number : (o : Option ℕ) → is_some o ≡ false → o ≡ None
no_number None missing = refl
no_number (Some i) missing = absurd cc

pub decides_none : (e : PlainTrack) (from to : ℕ) → Decides (not (has_state_between e from to)) (HasNone e from to)
decides_none e from to =
    decides_same (not (has_state_between e from to))
    (λ none m low high. no_number (piece_at e m) (none m low (omega arith)))
    (λ none m low high. let missing = none m low (omega arith) in rw missing refl)
    (decides_no (λ m. is_some (piece_at e m)) from (to + 1 - from))

-- a track with a state from one tick to another, or with none
pub state_none : (e : PlainTrack) (from to : ℕ) → HasNone e from to → has_state_between e from to ≡ false
state_none e from to none = not-true (has_state_between e from to) ((decides_none e from to).1 none)

pub state_some : (e : PlainTrack) (from to : ℕ) → ¬ HasNone e from to → has_state_between e from to ≡ true
state_some e from to some = (decides_other (has_state_between e from to) (decides_none e from to)).1 some

either : {P Q : Type 0} (x y : Bool) → Decides x P → Decides y Q → Decides (x || y) (P ⊎ Q)
either true y d f = (λ yes. inl (d.0 refl), λ h. refl)
either false y d f = (
  λ yes. inr (f.0 yes),
  λ h. elim h [
    | inl p ↦ let wrong : false ≡ true = d.1 p in absurd cc
    | inr q ↦ f.1 q
  ],
)

pub decides_radii : (shell : Shell) (h : PlainHull) → Decides (shows_radii shell h) (ShowsRadii shell h)
decides_radii shell h =
    decides_same (shows_radii shell h)
    (λ both. record { inner = both.0; outer = both.1 })
    (λ shows. (shows.inner, shows.outer))
    (Decides-and _ _ (either (shell.lo == 0) (are_at_least (gap_terms h).low shell.lo) (Decides-eqb shell.lo 0) (decides_at_least (gap_terms h).low shell.lo))
    (decides_at_most_ends (gap_terms h).high shell.hi))

pub decides_shell : (e : PlainTrack) (from to : ℕ) (shell : Option Shell) → Decides (is_shell_over e from to shell) (IsShellOver e from to shell)
decides_shell e from to None = decides_none e from to
decides_shell e from to (Some shell) =
    Decides-and (has_state_between e from to) (list_all (shows_radii shell) (hulls_of e from to))
    (decides_other (has_state_between e from to) (decides_none e from to))
    (Decides-by_and (shows_radii shell) (ShowsRadii shell) (list_all (shows_radii shell)) (decides_radii shell) refl (λ _ _. refl) (hulls_of e from to))

-- ---- boxes

decides_at_most_each : (v : ℤ) (k : Four) → Decides (is_at_most_each v k) (IsAtMostEach v k)
decides_at_most_each v k =
    decides_same (is_at_most_each v k)
    (λ h. record { k0 = h.0; k1 = h.1.0; k2 = h.1.1.0; k3 = h.1.1.1 })
    (λ h. (h.k0, (h.k1, (h.k2, h.k3))))
    (Decides-and _ _ (decides_le v k.k0) (Decides-and _ _ (decides_le v k.k1) (Decides-and _ _ (decides_le v k.k2) (decides_le v k.k3))))

decides_at_least_each : (v : ℤ) (k : Four) → Decides (is_at_least_each v k) (IsAtLeastEach v k)
decides_at_least_each v k =
    decides_same (is_at_least_each v k)
    (λ h. record { k0 = h.0; k1 = h.1.0; k2 = h.1.1.0; k3 = h.1.1.1 })
    (λ h. (h.k0, (h.k1, (h.k2, h.k3))))
    (Decides-and _ _ (decides_le k.k0 v) (Decides-and _ _ (decides_le k.k1 v) (Decides-and _ _ (decides_le k.k2 v) (decides_le k.k3 v))))

pub decides_hull_in : (area : PlainBox) (h : PlainHull) → Decides (is_hull_in area h) (IsHullIn area h)
decides_hull_in area h =
    decides_same (is_hull_in area h)
    (λ h. record { x_low = h.0.0; x_high = h.0.1; y_low = h.1.0.0; y_high = h.1.0.1; z_low = h.1.1.0; z_high = h.1.1.1 })
    (λ h. ((h.x_low, h.x_high), ((h.y_low, h.y_high), (h.z_low, h.z_high))))
    (Decides-and _ _ (Decides-and _ _ (decides_at_most_each area.x.least h.x.low) (decides_at_least_each area.x.most h.x.high))
    (Decides-and _ _ (Decides-and _ _ (decides_at_most_each area.y.least h.y.low) (decides_at_least_each area.y.most h.y.high))
    (Decides-and _ _ (decides_at_most_each area.z.least h.z.low) (decides_at_least_each area.z.most h.z.high))))

decides_in_slot : (case : PlainProblem) (line : PlainBoxLine) (slot : ℕ)
    → Decides (holds_in_slot case line slot) (IsSomeAnd (slice_get case.tracks line.object) (λ e. All (IsHullIn line.area) (hulls_of e (slot_first case.first slot) (slot_last case.first case.last slot))))
decides_in_slot case line slot =
    decides_some (λ e. list_all (is_hull_in line.area) (hulls_of e (slot_first case.first slot) (slot_last case.first case.last slot)))
    (λ e. All (IsHullIn line.area) (hulls_of e (slot_first case.first slot) (slot_last case.first case.last slot)))
    (λ e. Decides-by_and (is_hull_in line.area) (IsHullIn line.area) (list_all (is_hull_in line.area)) (decides_hull_in line.area) refl (λ _ _. refl)
    (hulls_of e (slot_first case.first slot) (slot_last case.first case.last slot)))
    (slice_get case.tracks line.object)

pub decides_holds : (case : PlainProblem) (line : PlainBoxLine) → Decides (holds_hulls case line) (HoldsHulls case line)
decides_holds case line =
    decides_same (holds_hulls case line)
    (λ h slot low high. h slot low (omega arith))
    (λ h slot low high. h slot low (omega arith))
    (decides_range (holds_in_slot case line)
    (λ slot. IsSomeAnd (slice_get case.tracks line.object) (λ e. All (IsHullIn line.area) (hulls_of e (slot_first case.first slot) (slot_last case.first case.last slot))))
    (decides_in_slot case line) line.first (line.last + 1 - line.first))

pub decides_front : (slots places : List (ℕ × ℕ)) → Decides (are_in_front slots places) (slots ++ drop (length slots) places ≡ places)
decides_front [] places = (λ yes. refl, λ same. refl)
decides_front (slot ∷ slots) [] = (λ yes. absurd cc, λ same. absurd cc)
decides_front (slot ∷ slots) (place ∷ places) =
    let rest = decides_front slots places in (
      λ yes.
          let both = and_parts ((slot.0 == place.0) && (slot.1 == place.1)) (are_in_front slots places) yes in
          let pair = (Decides-and (slot.0 == place.0) (slot.1 == place.1) (Decides-eqb slot.0 place.0) (Decides-eqb slot.1 place.1)).0 both.0 in
          let object = pair.0 in
          let own = pair.1 in
          let more = rest.0 both.1 in
          λ j. (object j, own j) ∷ more j,
      λ same.
          let head : slot ≡ place = cc in
          let tail : slots ++ drop (length slots) places ≡ places = cc in
          let pair = (Decides-and (slot.0 == place.0) (slot.1 == place.1) (Decides-eqb slot.0 place.0) (Decides-eqb slot.1 place.1)).1
          (ap (λ (p : ℕ × ℕ). p.0) head, ap (λ (p : ℕ × ℕ). p.1) head) in
          let more = rest.1 tail in
          rw (pair, more) refl,
    )

pub decides_nat_le : (x y : ℕ) → Decides (nat_le x y) (x ≤ y)
decides_nat_le x y = (λ yes. leb-true x y yes, λ h. le-leb x y h)

-- ---- cells

pub decides_supported : (case : PlainProblem) (s : PlainLeaf) → Decides (is_supported case s) (IsSupported case s)
decides_supported case s =
    decides_some _ _ (λ e. decides_some _ _ (λ f. decides_some _ _ (λ x. decides_some _ _ (λ y.
    decides_supports (gap_terms (hull_gap (curve_of_piece x) (curve_of_piece y) s.first s.last)) (threshold_of case s.a s.b) s.kind)
    (piece_holding f s.first)) (piece_holding e s.first)) (slice_get case.tracks s.b)) (slice_get case.tracks s.a)
