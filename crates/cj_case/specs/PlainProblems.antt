-- Cases: what a run is asked, apart from how a program keeps it; and the threshold of a pair.
use Rattle.std.specs.Prelude.{ℕ, ◌+◌, Bool, List, Option, slice_index}
use Rattle.cj_track.specs.PlainTracks.{PlainTrack}

-- The tracks of the objects, which are numbered from 0; the window from its first to its last tick; the threshold in nm; the size of
-- each object, a radius in nm; and where primaries are named, whether each object is one: then only pairs with a primary are looked at.
pub record PlainProblem : Type 0 where
  pub tracks : List PlainTrack
  pub first : ℕ
  pub last : ℕ
  pub threshold : ℕ
  pub sizes : List ℕ
  pub primaries : Option (List Bool)

-- a threshold between the objects a and b with these sizes: so far beyond both radii
abbrev pub threshold_between : ℕ → List ℕ → ℕ → ℕ → ℕ
threshold_between thr sizes a b = thr + slice_index sizes a + slice_index sizes b

-- the threshold of the objects a and b in nm
abbrev pub threshold_of : PlainProblem → ℕ → ℕ → ℕ
threshold_of case a b = threshold_between case.threshold case.sizes a b
