-- The objects of a catalogue as tracks: places in nm, rates in nm/s.
use Rattle.std.specs.Prelude.{ℕ, ◌+◌, ◌-◌, ◌*◌, List, [], ◌∷◌, ◌++◌, map, false, codes, pos, negsuc, ◌*ℤ◌}
use Rattle.std.specs.List.{range_with_len}
use Rattle.cj_kvn.specs.Decimals.{zero_number}
use Rattle.cj_base.specs.Numbers.{Number}
use Rattle.cj_base.specs.Ticks.{MINUTE}
use Rattle.cj_track.specs.declared.frame.Frame.TheVariants as frames
use Rattle.cj_track.specs.declared.vec3.Vec3.{Vec3}
use Rattle.cj_track.specs.PlainTracks.{PlainNode, PlainMatrix, PlainTrack}
use Rattle.cj_gen.specs.Catalogues.{file_name}
use Rattle.cj_gen.specs.Draws.{state_after}
use Rattle.cj_gen.specs.declared.orbit.Orbit.{Orbit}
use Rattle.cj_gen.specs.declared.tilt.Vector.{Vector}
use Rattle.cj_gen.specs.Orbits.{after_turns, rate_at, lifted, orbit_from}
use Rattle.cj_gen.specs.Texts.{five}

-- so many minutes after 2025-01-01T00:00:00
abbrev pub tick_at : ℕ → ℕ
tick_at minutes = 1_735_689_600_000_000 + minutes * MINUTE

-- so many times as large
abbrev pub times : ℕ → Vector → Vec3
times n v = record { x = v.x *ℤ pos n; y = v.y *ℤ pos n; z = v.z *ℤ pos n }

-- the node so many minutes after the first: its place was in metres, its rate in mm/s
abbrev pub node_at : Orbit → ℕ → PlainNode
node_at orbit n =
    let p = after_turns n orbit.first in
    record { at = tick_at n; p = times 1_000_000_000 (lifted orbit.tilt p); v = times 1_000_000 (lifted orbit.tilt (rate_at p)) }

-- 10 m in each place, in square km
abbrev pub place_variance : Number
place_variance = record { negative = false; digits = 1; power = negsuc 3 }

-- 1 cm/s in each rate, in square km/s
abbrev pub rate_variance : Number
rate_variance = record { negative = false; digits = 1; power = negsuc 9 }

-- the covariance at the first node
abbrev pub covariance : PlainMatrix
covariance = record {
  at = 1_735_689_600_000_000;
  values =
      place_variance
      ∷ zero_number ∷ place_variance
      ∷ zero_number ∷ zero_number ∷ place_variance
      ∷ zero_number ∷ zero_number ∷ zero_number ∷ rate_variance
      ∷ zero_number ∷ zero_number ∷ zero_number ∷ zero_number ∷ rate_variance
      ∷ zero_number ∷ zero_number ∷ zero_number ∷ zero_number ∷ zero_number ∷ rate_variance ∷ [];
}

-- the object with this number on this orbit: one segment, with a node for each minute
unfoldable pub track_on : ℕ → Orbit → ℕ → PlainTrack
track_on number orbit minutes = record {
  file = file_name number;
  name = codes "GEN " ++ five number;
  id = codes "GEN-" ++ five number;
  frame = frames.Eme2000;
  segments = record {
    first = 1_735_689_600_000_000;
    last = tick_at minutes;
    nodes = map (node_at orbit) (range_with_len 0 (minutes + 1));
    covariances = covariance ∷ [];
  } ∷ [];
}

-- the object with this number, counted from 1, of the catalogue of a seed
abbrev pub track_of : ℕ → ℕ → ℕ → PlainTrack
track_of seed minutes number = track_on number (orbit_from (state_after seed (3 * (number - 1)))) minutes

-- so many objects over so many minutes
unfoldable pub tracks_of : ℕ → ℕ → ℕ → List PlainTrack
tracks_of seed objects minutes = map (track_of seed minutes) (range_with_len 1 objects)
