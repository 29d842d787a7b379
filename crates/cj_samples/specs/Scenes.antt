-- The small cases, apart from how a program keeps them: lengths in nm, rates in nm/s.
use Rattle.std.specs.Prelude.{ℕ, ◌*◌, ◌^◌, [], ◌∷◌, None, ℤ, pos, neg_ℤ}
use Rattle.cj_track.specs.declared.vec3.Vec3.{Vec3}
use Rattle.cj_track.specs.PlainTracks.{PlainTrack}
use Rattle.cj_case.specs.PlainProblems.{PlainProblem}
use Rattle.cj_samples.specs.Samples.{tick_at, state, between, no_rate, sat_a}

abbrev pub kilometres : ℕ → ℤ
kilometres n = pos (n * 10 ^ 12)

-- 7.5 km/s
abbrev pub SPEED : ℕ
SPEED = 7_500_000_000_000

-- how far an object comes at this speed in half a minute: 225 km
abbrev pub HALF_WAY : ℕ
HALF_WAY = 30 * SPEED

abbrev pub vector : ℤ → ℤ → ℤ → Vec3
vector x y z = record { x = x; y = y; z = z }

-- over the first minute of 2025 from one place to another, with one rate at both
abbrev pub minute_from : Vec3 → Vec3 → Vec3 → PlainTrack
minute_from from to v = sat_a (between 0 60 (state 0 from v) (state 60 to v) ∷ [])

-- along y at this speed, half of the way on either side of the x axis, which it meets 7,000 km from the Earth's center
abbrev pub path_along_y : PlainTrack
path_along_y =
    let x = kilometres 7000 in
    minute_from (vector x (neg_ℤ (pos HALF_WAY)) (pos 0)) (vector x (pos HALF_WAY) (pos 0)) (vector (pos 0) (pos SPEED) (pos 0))

-- along z, which meets it a kilometre further out
abbrev pub path_along_z : PlainTrack
path_along_z =
    let x = kilometres 7001 in
    minute_from (vector x (pos 0) (neg_ℤ (pos HALF_WAY))) (vector x (pos 0) (pos HALF_WAY)) (vector (pos 0) (pos 0) (pos SPEED))

-- at rest on the x axis, so many kilometres from the Earth's center
abbrev pub resting_at : ℕ → PlainTrack
resting_at n = let p = vector (kilometres n) (pos 0) (pos 0) in minute_from p p no_rate

-- two objects of these sizes over that minute, its end included, by a threshold of 5 km
abbrev pub case_of : PlainTrack → PlainTrack → ℕ → ℕ → PlainProblem
case_of a b size_a size_b = record {
  tracks = a ∷ b ∷ [];
  first = tick_at 0;
  last = tick_at 60;
  threshold = 5 * 10 ^ 12;
  sizes = size_a ∷ size_b ∷ [];
  primaries = None;
}
