-- The objects at rest and on straight lines, apart from how a program keeps them: places in nm, rates in nm/s.
use Rattle.std.specs.Prelude.{ℕ, ◌*◌, List, [], ◌∷◌, codes, pos}
use Rattle.cj_track.specs.declared.frame.Frame.TheVariants as frames
use Rattle.cj_track.specs.declared.vec3.Vec3.{Vec3}
use Rattle.cj_track.specs.PlainTracks.{PlainNode, PlainSegment, PlainTrack}
use Rattle.cj_samples.specs.Moments.{tick_of}

-- the tick so many seconds after 2025-01-01T00:00:00
abbrev pub tick_at : ℕ → ℕ
tick_at seconds = tick_of (seconds * 1_000_000)

-- at a second, in a place, with a rate
abbrev pub state : ℕ → Vec3 → Vec3 → PlainNode
state second p v = record { at = tick_at second; p = p; v = v }

-- useable from one second to another, with two nodes and no covariance
abbrev pub between : ℕ → ℕ → PlainNode → PlainNode → PlainSegment
between first last from to = record { first = tick_at first; last = tick_at last; nodes = from ∷ to ∷ []; covariances = [] }

-- the rate of what is at rest
abbrev pub no_rate : Vec3
no_rate = record { x = pos 0; y = pos 0; z = pos 0 }

-- at a second, at rest in a place
abbrev pub at_rest : ℕ → Vec3 → PlainNode
at_rest second p = state second p no_rate

-- the object SAT A of a file, with these segments
abbrev pub sat_a : List PlainSegment → PlainTrack
sat_a segments = record { file = codes "a.oem"; name = codes "SAT A"; id = codes "2025-001A"; frame = frames.Eme2000; segments = segments }
