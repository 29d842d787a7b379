-- The orbits of a catalogue: circles about the Earth's center. Lengths are in metres, rates in millimetres a second.
use Rattle.std.specs.Prelude.{ℕ, zero, suc, ◌+◌, ◌*◌, ◌%◌, ◌<◌, nat_eq, nat_lt, if◌then◌else◌, pos, ◌+ℤ◌, ◌-ℤ◌, ◌*ℤ◌, ◌≤ℤ◌, neg_ℤ}
use Rattle.cj_interval.specs.Rounding.{floor_div}
use Rattle.cj_interval.specs.Sizes.{IsWithin}
use Rattle.cj_gen.specs.declared.plane.Point.{Point}
use Rattle.cj_gen.specs.declared.orbit.Orbit.{Orbit}
use Rattle.cj_gen.specs.declared.tilt.Tilt.{Tilt}
use Rattle.cj_gen.specs.declared.tilt.Vector.{Vector}
use Rattle.cj_gen.specs.Draws.{next_state, drawn_at}

-- a place on the first axis
abbrev pub on_axis : ℕ → Point
on_axis x = record { x = pos x; y = pos 0 }

-- one turn, by the angle with the cosine 480/481 and the sine 31/481, rounded down
abbrev pub turned : Point → Point
turned p = record { x = floor_div (pos 480 *ℤ p.x -ℤ pos 31 *ℤ p.y) 481; y = floor_div (pos 31 *ℤ p.x +ℤ pos 480 *ℤ p.y) 481 }

-- so many turns
unfoldable pub after_turns : ℕ → Point → Point
after_turns zero p = p
after_turns (suc n) p = turned (after_turns n p)

-- at most m from the center
abbrev pub IsNear : ℕ → Point → Type 0
IsNear m p = (p.x *ℤ p.x +ℤ p.y *ℤ p.y) ≤ℤ pos (m * m)

-- both coordinates are at most m in size
abbrev pub IsInSquare : ℕ → Point → Type 0
IsInSquare m p = IsWithin m p.x × IsWithin m p.y

-- the rate of a place on its circle, rounded down
abbrev pub rate_at : Point → Point
rate_at p = record { x = floor_div (neg_ℤ (pos 10749 *ℤ p.y)) 10000; y = floor_div (pos 10749 *ℤ p.x) 10000 }

-- right triangles with whole sides: two legs and the longest side
abbrev pub triangle : ℕ → Tilt
triangle n =
    if nat_eq n 0 then record { p = pos 3; q = pos 4; r = 5 }
    else if nat_eq n 1 then record { p = pos 5; q = pos 12; r = 13 }
    else if nat_eq n 2 then record { p = pos 8; q = pos 15; r = 17 }
    else record { p = pos 7; q = pos 24; r = 25 }

-- the same tilt to the other side
abbrev pub mirrored : Tilt → Tilt
mirrored t = record t { q = neg_ℤ t.q }

-- eight tilts: four triangles, to one side and to the other
abbrev pub tilt_of : ℕ → Tilt
tilt_of n = if nat_lt n 4 then triangle (n % 4) else mirrored (triangle (n % 4))

-- a vector of the plane of the first two axes in the tilted plane, rounded down
abbrev pub lifted : Tilt → Point → Vector
lifted t v = record { x = v.x; y = floor_div (t.p *ℤ v.y) t.r; z = floor_div (t.q *ℤ v.y) t.r }

-- the orbit that the next three draws after a state give: its radius, its first place, its tilt
abbrev pub orbit_from : ℕ → Orbit
orbit_from s =
    let a = next_state s in
    let b = next_state a in
    let c = next_state b in
    record {
      first = after_turns (drawn_at b % 97) (on_axis (6900000 + 1000 * (drawn_at a % 41)));
      tilt = tilt_of (drawn_at c % 8);
    }

-- an orbit of a catalogue: its first place is at most 7,000 km from the center, and its triangle has a longest side
abbrev pub IsOrbit : Orbit → Type 0
IsOrbit o = IsNear 7000000 o.first × (0 < o.tilt.r)
