-- How far the objects of a problem reach from the origin.
use Rattle.std.specs.Prelude.{ℕ, pos, neg_ℤ, ◌≤ℤ◌}
use Rattle.std.specs.List.{All}
use Rattle.cj_track.specs.PlainTracks.{PlainTrack}
use Rattle.cj_case.specs.PlainProblems.{PlainProblem}
use Rattle.cj_bezier.specs.Hulls.{Ends, PlainHull}
use Rattle.cj_bezier.specs.Parts.{AreInTime, hulls_of}
use Rattle.cj_bezier.specs.Shells.{MAX_RADIUS}
use Rattle.cj_bezier.specs.SlotBoxes.{IsAtMostEach, IsAtLeastEach}

-- the control points of an axis are spans, and lie within a million kilometres of the origin
pub record IsAxisNear (e : Ends) : Type 0 where
  pub low : IsAtMostEach (neg_ℤ (pos MAX_RADIUS)) e.low
  pub ordered : e.low.k0 ≤ℤ e.high.k0
  pub high : IsAtLeastEach (pos MAX_RADIUS) e.high

pub record IsHullNear (h : PlainHull) : Type 0 where
  pub x : IsAxisNear h.x
  pub y : IsAxisNear h.y
  pub z : IsAxisNear h.z

-- from any tick to any other the pieces of a track come in order of time, and their hulls are near
pub record StaysNear (e : PlainTrack) : Type 0 where
  pub time : (from to : ℕ) → AreInTime e from to
  pub hulls : (from to : ℕ) → All IsHullNear (hulls_of e from to)

-- each object does so
abbrev pub AllStayNear : PlainProblem → Type 0
AllStayNear case = All StaysNear case.tracks
