-- Joined gaps: what the gaps of hulls against the origin show together.
use Rattle.std.specs.Prelude.{◌≡◌, ℕ, ◌+◌, ◌^◌, ◌≤◌, ◌↔◌, true, IsTrue, ℤ, pos, List, map, slice_index_or}
use Rattle.std.specs.Int.{int_min, int_max}
use Rattle.cj_track.specs.PlainTracks.{PlainTrack}
use Rattle.cj_hermite.specs.Walks.{HasNone}
use Rattle.cj_bezier.specs.Gaps.{PlainGap}
use Rattle.cj_bezier.specs.Hulls.{PlainHull}
use Rattle.cj_bezier.specs.Parts.{hulls_of, AreInTime}
use Rattle.cj_bezier.specs.Shells.{IsInner, IsOuter, is_inner, is_outer}
use Rattle.cj_bezier.specs.Verdicts.{SEVEN}

-- the lesser of each two of seven ends
abbrev pub lesser : List ℤ → List ℤ → List ℤ
lesser xs ys = map (λ k. int_min (slice_index_or xs k (pos 0)) (slice_index_or ys k (pos 0))) SEVEN

-- the greater of each two of seven ends
abbrev pub greater : List ℤ → List ℤ → List ℤ
greater xs ys = map (λ k. int_max (slice_index_or xs k (pos 0)) (slice_index_or ys k (pos 0))) SEVEN

-- the gap shows those radii that all of these hulls show
pub record IsGapRound (hs : List PlainHull) (g : PlainGap) : Type 0 where
  pub inner : (r : ℕ) → IsInner g r ↔ IsTrue (is_inner hs r)
  pub outer : (r : ℕ) → IsOuter g r ↔ IsTrue (is_outer hs r)

-- ---- part by part

-- the radii that all hulls show are those of the gap so far and of the hulls that are left
pub record IsGapBefore (all left : List PlainHull) (g : PlainGap) : Type 0 where
  pub inner : (r : ℕ) → (is_inner all r ≡ true) ↔ (IsInner g r × (is_inner left r ≡ true))
  pub outer : (r : ℕ) → (is_outer all r ≡ true) ↔ (IsOuter g r × (is_outer left r ≡ true))

-- the gap of the parts up to tick `at`
pub record IsGapUpTo (e : PlainTrack) (from at to : ℕ) (g : PlainGap) : Type 0 where
  pub after : from ≤ at
  pub within : at ≤ to
  pub gap : IsGapBefore (hulls_of e from to) (hulls_of e (at + 1) to) g
  pub some : ¬ HasNone e from to
  pub time : AreInTime e from at
  pub reach : IsOuter g (10 ^ 18)
