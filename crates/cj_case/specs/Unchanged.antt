-- Unchanged pairs: pairs of objects that another case has too, in the same order.
use Rattle.std.specs.Prelude.{ℕ, Bool, false, ◌&&◌, ◌==◌, Option, Some, None, length, slice_get, slice_index}
use Rattle.std.specs.Bool.{beq}
use Rattle.std.specs.List.{list_any}
use Rattle.cj_track.specs.PlainTracks.{PlainTrack}
use Rattle.cj_track.specs.SameTracks.{same_track}
use Rattle.cj_case.specs.Pairs.{pairs_of}
use Rattle.cj_case.specs.PlainProblems.{PlainProblem}
use Rattle.cj_case.specs.Primaries.{is_primary}

-- there are two tracks, and they are the same in all fields
abbrev pub are_same : Option PlainTrack → Option PlainTrack → Bool
are_same None f = false
are_same (Some e) None = false
are_same (Some e) (Some f) = same_track e f

-- they have the same track, with covariances and names, and the same size
abbrev pub is_like : PlainProblem → PlainProblem → ℕ → ℕ → Bool
is_like old new p i = are_same (slice_get old.tracks p) (slice_get new.tracks i) && slice_index old.sizes p == slice_index new.sizes i

-- object p of one case is object i of another: the same track, with covariances and names, the same size, and a primary in both or in neither
unfoldable pub is_object : PlainProblem → PlainProblem → ℕ → ℕ → Bool
is_object old new p i = is_like old new p i && beq (is_primary old p) (is_primary new i)

-- a pair of the new case is unchanged: the old case has a pair of both its objects, in the same order
unfoldable pub is_unchanged : PlainProblem → PlainProblem → ℕ × ℕ → Bool
is_unchanged old new pair = list_any (λ p. is_object old new p.0 pair.0 && is_object old new p.1 pair.1) (pairs_of (length old.tracks))
