-- The first part of a track from a tick on.
use Rattle.std.specs.Prelude.{◌≡◌, ℕ, ◌+◌, ◌≤◌, ◌∷◌}
use Rattle.cj_track.specs.PlainTracks.{PlainTrack}
use Rattle.cj_bezier.specs.declared.part.Part.{Part}
use Rattle.cj_bezier.specs.Hulls.{axes_of}
use Rattle.cj_bezier.specs.Parts.{hulls_of}

-- the hulls from a tick on are this part's and those behind it, up to each tick from its last one to this last
abbrev pub IsFirstPart : PlainTrack → ℕ → ℕ → Part → Type 0
IsFirstPart e from last part = (upto : ℕ) → part.last.micros ≤ upto → upto ≤ last
    → hulls_of e from upto ≡ axes_of part.hull.points ∷ hulls_of e (part.last.micros + 1) upto
