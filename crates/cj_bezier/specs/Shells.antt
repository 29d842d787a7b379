-- Shells: between which distances from the origin a track stays, and which pairs are kept by their shells.
use Rattle.std.specs.Prelude.{◌≡◌, ℕ, ◌+◌, ◌-◌, ◌*◌, ◌<◌, ◌≤◌, ◌⊎◌, ◌==◌, min, max, nat_lt, Bool, false, ◌||◌, ◌&&◌, not}
use Rattle.std.specs.Prelude.{ℤ, pos, ◌+ℤ◌, ◌*ℤ◌, ◌≤ℤ◌, List, [], ◌∷◌, Option, Some, None, option_and_then, slice_get}
use Rattle.std.specs.List.{list_all}
pub use Rattle.cj_interval.specs.Passing.{greatest_to, least_from}
use Rattle.cj_track.specs.PlainTracks.{PlainTrack}
use Rattle.cj_hermite.specs.Interpolant.{Curve, place_numerator, place_denominator}
use Rattle.cj_case.specs.PlainProblems.{threshold_between}
use Rattle.cj_case.specs.Primaries.{has_primary}
use Rattle.cj_case.specs.declared.shells.Shell.{Shell}
use Rattle.cj_bezier.specs.Gaps.{PlainGap, gap_terms}
use Rattle.cj_bezier.specs.Hulls.{PlainHull}
use Rattle.cj_bezier.specs.Parts.{OfEachHull, hulls_of}
use Rattle.cj_bezier.specs.Verdicts.{AreAtLeast, AreAtMost, are_at_least, are_at_most}

-- r may be the lower end of a shell: it is 0, or each lower end of the gap against the origin is at least C(6,k) r²
abbrev pub IsInner : PlainGap → ℕ → Type 0
IsInner g r = (r ≡ 0) ⊎ AreAtLeast g.low r

-- r may be the upper end: each upper end of the gap is at most C(6,k) r²
abbrev pub IsOuter : PlainGap → ℕ → Type 0
IsOuter g r = AreAtMost g.high r

-- the square of the distance from the origin at tick m, times the square of the denominator
abbrev pub square_radius : Curve → ℕ → ℤ
square_radius c m =
    let x = place_numerator c.x c.span (m - c.start) in
    let y = place_numerator c.y c.span (m - c.start) in
    let z = place_numerator c.z c.span (m - c.start) in
    x *ℤ x +ℤ y *ℤ y +ℤ z *ℤ z

-- at tick m of an interpolant that has ticks the distance from the origin lies from lo to hi, in nm
pub record IsRadiusWithin (c : Curve) (m lo hi : ℕ) : Type 0 where
  pub some : 0 < c.span
  pub least : pos (lo * lo * (place_denominator c.span * place_denominator c.span)) ≤ℤ square_radius c m
  pub most : square_radius c m ≤ℤ pos (hi * hi * (place_denominator c.span * place_denominator c.span))

-- the shell of a track from one tick to another: the greatest inner and the least outer radius that the hulls of its parts show
pub record IsShellOf (e : PlainTrack) (from to : ℕ) (shell : Shell) : Type 0 where
  pub inner : OfEachHull e from to (λ h. IsInner (gap_terms h) shell.lo)
  pub greatest : (r : ℕ) → OfEachHull e from to (λ h. IsInner (gap_terms h) r) → r ≤ shell.lo
  pub outer : OfEachHull e from to (λ h. IsOuter (gap_terms h) shell.hi)
  pub least : (r : ℕ) → OfEachHull e from to (λ h. IsOuter (gap_terms h) r) → shell.hi ≤ r

-- ---- the same as a function

-- the greatest radius that a certificate may have, in nm
abbrev pub MAX_RADIUS : ℕ
MAX_RADIUS = 1_000_000_000_000_000_000

abbrev pub is_inner : List PlainHull → ℕ → Bool
is_inner hs r = (r == 0) || list_all (λ h. are_at_least (gap_terms h).low r) hs

abbrev pub is_outer : List PlainHull → ℕ → Bool
is_outer hs r = list_all (λ h. are_at_most (gap_terms h).high r) hs

-- the shell round hulls, where there are any
unfoldable pub shell_round : List PlainHull → Option Shell
shell_round [] = None
shell_round (h ∷ hs) = Some (record { lo = greatest_to MAX_RADIUS (is_inner (h ∷ hs)); hi = least_from MAX_RADIUS 0 (is_outer (h ∷ hs)) })

-- the shell of a track from one tick to another, where it has a state
abbrev pub shell_of : PlainTrack → ℕ → ℕ → Option Shell
shell_of e from to = shell_round (hulls_of e from to)

-- ---- two shells

-- the apogee and perigee filter of Hoots, Crawford and Roehrich: the shells are more than a threshold apart
abbrev pub are_parted : Shell → Shell → ℕ → Bool
are_parted s t thr = nat_lt (min s.hi t.hi + thr) (max s.lo t.lo)

-- both objects have a shell, and these are not parted
abbrev pub are_kept : ℕ → Option Shell → Option Shell → Bool
are_kept thr None t = false
are_kept thr (Some s) None = false
are_kept thr (Some s) (Some t) = not (are_parted s t thr)

-- the shell of an object, where there is one
abbrev pub shell_in : List (Option Shell) → ℕ → Option Shell
shell_in shells object = option_and_then (λ shell. shell) (slice_get shells object)

-- whether a pair of objects with these shells is kept
abbrev pub keeps : ℕ → List (Option Shell) → ℕ × ℕ → Bool
keeps thr shells pair = are_kept thr (shell_in shells pair.0) (shell_in shells pair.1)

-- the same, by the threshold between the two, which have these sizes, where one of the two is among these primaries
abbrev pub keeps_between : Option (List Bool) → ℕ → List ℕ → List (Option Shell) → ℕ × ℕ → Bool
keeps_between primaries thr sizes shells pair = has_primary primaries pair && keeps (threshold_between thr sizes pair.0 pair.1) shells pair
