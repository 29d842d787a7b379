-- The shell round hulls: which radii they show together, and that it holds the distance from the origin at each tick.
use Rattle.std.proofs.Common.{◌≡◌, ◌≢◌, ℕ, ◌≤◌, ◌↔◌, Bool, true, false, ◌||◌, eqb, List, [], ◌∷◌, Some, None, refl, ap, subst, inl, inr, arith}
use Rattle.std.specs.Prelude.{IfSome}
use Rattle.std.specs.List.{list_all}
use Rattle.std.proofs.lemmas.Bool.{cases_eq, eqb-true, eq-eqb, false_from_ne_true}
pub use Rattle.cj_interval.proofs.PassingLemmas.{greatest_passes, least_passes}
use Rattle.cj_interval.proofs.PassingLemmas.{greatest_is, least_is}
use Rattle.cj_interval.proofs.ListLemmas.{Each, Each-weaker, Each-always, Each-both, each_from_list_all, list_all-from_each}
use Rattle.cj_track.specs.PlainTracks.{PlainTrack}
use Rattle.cj_hermite.specs.Pieces.{piece_holding, curve_of_piece}
use Rattle.cj_hermite.specs.Walks.{HasNone}
use Rattle.cj_case.specs.declared.shells.Shell.{Shell}
use Rattle.cj_bezier.specs.Gaps.{gap_terms}
use Rattle.cj_bezier.specs.Hulls.{PlainHull}
use Rattle.cj_bezier.specs.Parts.{hulls_of, HaveParts, AreInTime}
use Rattle.cj_bezier.specs.Shells.{IsInner, IsOuter, IsRadiusWithin, IsShellOf, MAX_RADIUS, greatest_to, least_from, is_inner, is_outer, shell_round, shell_of}
use Rattle.cj_bezier.specs.Verdicts.{are_at_least, are_at_most}
use Rattle.cj_bezier.proofs.HullListLemmas.{of_each_hull, each_hull, no_hulls, at_each_tick}
use Rattle.cj_bezier.proofs.ShellLemmas.{radius_within}
use Rattle.cj_bezier.proofs.TestLemmas.{decides_at_least, decides_at_most}

-- ---- the radii that hulls show together

pub inner_test : (hs : List PlainHull) (r : ℕ) → Each (λ h. IsInner (gap_terms h) r) hs → is_inner hs r ≡ true
inner_test hs r each = elim (cases_eq r 0) [
  | inl zero_here ↦ let is : eqb r 0 ≡ true = eq-eqb r 0 zero_here in rw is refl
  | inr other ↦
      let all : list_all (λ h. are_at_least (gap_terms h).low r) hs ≡ true =
      list_all-from_each (λ h. are_at_least (gap_terms h).low r) hs (Each-weaker (λ h. IsInner (gap_terms h) r) (λ h. are_at_least (gap_terms h).low r ≡ true) (λ h inner. elim inner [
        | inl zero_here ↦ absurd (omega arith)
        | inr at_least ↦ (decides_at_least (gap_terms h).low r).1 at_least
      ]) hs each) in
      let no : eqb r 0 ≡ false = false_from_ne_true (eqb r 0) (λ yes. let same = eqb-true r 0 yes in omega arith) in
      rw (no, all) refl
]

pub test_inner : (hs : List PlainHull) (r : ℕ) → is_inner hs r ≡ true → Each (λ h. IsInner (gap_terms h) r) hs
test_inner hs r h = go (eqb r 0) refl h
  where
    go : (b : Bool) → eqb r 0 ≡ b → (b || list_all (λ h. are_at_least (gap_terms h).low r) hs) ≡ true → Each (λ h. IsInner (gap_terms h) r) hs
    go true is h = let zero_here = eqb-true r 0 is in Each-always (λ h. IsInner (gap_terms h) r) (λ h. inl zero_here) hs
    go false is h = Each-weaker (λ h. are_at_least (gap_terms h).low r ≡ true) (λ h. IsInner (gap_terms h) r) (λ h yes. inr ((decides_at_least (gap_terms h).low r).0 yes)) hs
        (each_from_list_all (λ h. are_at_least (gap_terms h).low r) hs h)

pub outer_test : (hs : List PlainHull) (r : ℕ) → Each (λ h. IsOuter (gap_terms h) r) hs → is_outer hs r ≡ true
outer_test hs r each =
    list_all-from_each (λ h. are_at_most (gap_terms h).high r) hs (Each-weaker (λ h. IsOuter (gap_terms h) r) (λ h. are_at_most (gap_terms h).high r ≡ true) (λ h outer. (decides_at_most (gap_terms h).high r).1 outer) hs each)

pub test_outer : (hs : List PlainHull) (r : ℕ) → is_outer hs r ≡ true → Each (λ h. IsOuter (gap_terms h) r) hs
test_outer hs r h = Each-weaker (λ h. are_at_most (gap_terms h).high r ≡ true) (λ h. IsOuter (gap_terms h) r) (λ h yes. (decides_at_most (gap_terms h).high r).0 yes) hs (each_from_list_all (λ h. are_at_most (gap_terms h).high r) hs h)

-- a hull in front of others
pub inner_front : (h : PlainHull) (hs : List PlainHull) (r : ℕ) → (is_inner (h ∷ hs) r ≡ true) ↔ (IsInner (gap_terms h) r × (is_inner hs r ≡ true))
inner_front h hs r = (
  λ all. let each = test_inner (h ∷ hs) r all in (each.0, inner_test hs r each.1),
  λ both. inner_test (h ∷ hs) r (both.0, test_inner hs r both.1),
)

pub outer_front : (h : PlainHull) (hs : List PlainHull) (r : ℕ) → (is_outer (h ∷ hs) r ≡ true) ↔ (IsOuter (gap_terms h) r × (is_outer hs r ≡ true))
outer_front h hs r = (
  λ all. let each = test_outer (h ∷ hs) r all in (each.0, outer_test hs r each.1),
  λ both. outer_test (h ∷ hs) r (both.0, test_outer hs r both.1),
)

-- ---- the shell

-- the greatest inner and the least outer radius that hulls show together
pub record IsShellRound (hs : List PlainHull) (s : Shell) : Type 0 where
  pub inner : is_inner hs s.lo ≡ true
  pub greatest : (r : ℕ) → is_inner hs r ≡ true → r ≤ s.lo
  pub outer : is_outer hs s.hi ≡ true
  pub least : (r : ℕ) → is_outer hs r ≡ true → s.hi ≤ r

-- it is the function's
pub shell_is : (e : PlainTrack) (from to : ℕ) (s : Shell) → hulls_of e from to ≢ [] → IsShellRound (hulls_of e from to) s → s.hi ≤ MAX_RADIUS → s.lo ≤ MAX_RADIUS → shell_of e from to ≡ Some s
unfolding shell_round
shell_is e from to s some is hi lo = go (hulls_of e from to) some is
  where
    go : (hs : List PlainHull) → hs ≢ [] → IsShellRound hs s → shell_round hs ≡ Some s
    go [] some is = absurd (some refl)
    go (h ∷ hs) some is =
        let low : greatest_to MAX_RADIUS (is_inner (h ∷ hs)) ≡ s.lo = greatest_is MAX_RADIUS s.lo (is_inner (h ∷ hs)) lo (inr is.inner) is.greatest in
        let high : least_from MAX_RADIUS 0 (is_outer (h ∷ hs)) ≡ s.hi = least_is MAX_RADIUS 0 s.hi (is_outer (h ∷ hs)) (omega arith) (omega arith) is.outer is.least in
        rw (low, high) refl

pub shell_none : (e : PlainTrack) (from to : ℕ) → HasNone e from to → shell_of e from to ≡ None
unfolding shell_round
shell_none e from to none_here = ap shell_round (no_hulls e from to none_here)

-- and that of the parts
pub shell_of_parts : (e : PlainTrack) (from to : ℕ) (s : Shell) → HaveParts e from to from to → IsShellRound (hulls_of e from to) s → IsShellOf e from to s
shell_of_parts e from to s have is = record {
  inner = of_each_hull e from to (λ h. IsInner (gap_terms h) s.lo) (test_inner (hulls_of e from to) s.lo is.inner);
  greatest = λ r each. is.greatest r (inner_test (hulls_of e from to) r (each_hull e from to (λ h. IsInner (gap_terms h) r) have each));
  outer = of_each_hull e from to (λ h. IsOuter (gap_terms h) s.hi) (test_outer (hulls_of e from to) s.hi is.outer);
  least = λ r each. is.least r (outer_test (hulls_of e from to) r (each_hull e from to (λ h. IsOuter (gap_terms h) r) have each));
}

-- radii that the hulls show hold the distance from the origin at each tick
pub radii_hold : (e : PlainTrack) (from to lo hi m : ℕ) → AreInTime e from to → is_inner (hulls_of e from to) lo ≡ true → is_outer (hulls_of e from to) hi ≡ true → from ≤ m → m ≤ to
    → IfSome (piece_holding e m) (λ x. IsRadiusWithin (curve_of_piece x) m lo hi)
radii_hold e from to lo hi m time inner outer =
    at_each_tick e from to m (λ h. IsInner (gap_terms h) lo × IsOuter (gap_terms h) hi) (λ c. IsRadiusWithin c m lo hi) time
    (Each-both (λ h. IsInner (gap_terms h) lo) (λ h. IsOuter (gap_terms h) hi) (hulls_of e from to) (test_inner (hulls_of e from to) lo inner) (test_outer (hulls_of e from to) hi outer))
    (λ h c both round.
    radius_within c round.first m round.last lo hi round.after round.before round.over
    (subst (λ (a : PlainHull). IsInner (gap_terms a) lo) round.hull both.0) (subst (λ (a : PlainHull). IsOuter (gap_terms a) hi) round.hull both.1))
