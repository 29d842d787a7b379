-- The places of box lines: the slots in which each object has a state, with its number, from one of them on.
use Rattle.std.specs.Prelude.{ℕ, ◌-◌, List, [], ◌∷◌, ◌++◌, map, filter, drop}
use Rattle.std.specs.List.{enumerate_from, flat_map, range_with_len}
use Rattle.cj_track.specs.PlainTracks.{PlainTrack}
use Rattle.cj_case.specs.PlainProblems.{PlainProblem}
use Rattle.cj_case.specs.Slots.{slot_count}
use Rattle.cj_cert.specs.Accepted.{has_state_in}

-- the slots in which a track has a state, from one on
abbrev pub slots_from : PlainProblem → PlainTrack → ℕ → List ℕ
slots_from case e slot = filter (has_state_in case e) (range_with_len slot (slot_count case.first case.last - slot))

-- the places of an object from a slot on
abbrev pub places_of : PlainProblem → ℕ × PlainTrack → ℕ → List (ℕ × ℕ)
places_of case object slot = map (λ s. (object.0, s)) (slots_from case object.1 slot)

-- the places of objects, those of the first from a slot on
abbrev pub places_in : PlainProblem → List (ℕ × PlainTrack) → ℕ → List (ℕ × ℕ)
places_in case [] slot = []
places_in case (object ∷ objects) slot = places_of case object slot ++ flat_map (λ other. places_of case other 0) objects

-- the places from a slot of an object on
abbrev pub places_from : PlainProblem → ℕ → ℕ → List (ℕ × ℕ)
places_from case object slot = places_in case (drop object (enumerate_from 0 case.tracks)) slot
