-- How far the objects of a catalogue are from the center, and how fast they are.
use Rattle.std.proofs.Common.{ℕ, ◌*◌, ◌%◌, ◌<◌, ◌≤◌, Bool, true, false, arith}
use Rattle.std.specs.Prelude.{nat_eq, nat_lt, if◌then◌else◌, ℤ, pos, neg_ℤ, ◌*ℤ◌, unsigned_abs}
use Rattle.std.proofs.lemmas.Int.{ints}
use Rattle.cj_interval.specs.Rounding.{floor_div}
use Rattle.cj_interval.specs.Sizes.{IsWithin}
use Rattle.cj_interval.proofs.MachineLemmas.{product_within}
use Rattle.cj_interval.proofs.SizeLemmas.{floor_div_within}
use Rattle.cj_track.specs.Limits as limits
use Rattle.cj_track.specs.Limits.{MAX_COORDINATE, MAX_RATE}
use Rattle.cj_gen.specs.Draws.{drawn_at, next_state}
use Rattle.cj_gen.specs.declared.orbit.Orbit.{Orbit}
use Rattle.cj_gen.specs.declared.plane.Point.{Point}
use Rattle.cj_gen.specs.declared.tilt.Tilt.{Tilt}
use Rattle.cj_gen.specs.declared.tilt.Vector.{Vector}
use Rattle.cj_gen.specs.Orbits.{IsInSquare, IsNear, after_turns, lifted, mirrored, orbit_from, rate_at, tilt_of, triangle}
use Rattle.cj_gen.proofs.PlaneLemmas.{few_near, in_square, near_drawn, rate_within}
use Rattle.cj_oem.proofs.StateAgainLemmas.{IsVector}
use Rattle.cj_gen.specs.MadeTracks.{times}

-- the legs of a triangle are at most as long as its longest side
pub record IsTriangle (t : Tilt) : Type 0 where
  pub some : 0 < t.r
  pub p : IsWithin t.r t.p
  pub q : IsWithin t.r t.q

-- an orbit of a catalogue
pub record IsMade (o : Orbit) : Type 0 where
  pub near : IsNear 7000000 o.first
  pub tilt : IsTriangle o.tilt

-- ---- what a seed gives

either : (P : Tilt → Type 0) (b : Bool) (t u : Tilt) → P t → P u → P (if b then t else u)
either P true t u first second = first
either P false t u first second = second

abbrev tilt_is : ℕ → ℕ → ℕ → Tilt
tilt_is p q r = record { p = pos p; q = pos q; r = r }

triangle_is : (p q r : ℕ) → 0 < r → p ≤ r → q ≤ r → IsTriangle (tilt_is p q r)
triangle_is p q r some first second = record { some = some; p = first; q = second }

triangle_made : (n : ℕ) → IsTriangle (triangle n)
triangle_made n =
    either IsTriangle (nat_eq n 0) (tilt_is 3 4 5) (if nat_eq n 1 then tilt_is 5 12 13 else if nat_eq n 2 then tilt_is 8 15 17 else tilt_is 7 24 25)
    (triangle_is 3 4 5 (omega arith) (omega arith) (omega arith))
    (either IsTriangle (nat_eq n 1) (tilt_is 5 12 13) (if nat_eq n 2 then tilt_is 8 15 17 else tilt_is 7 24 25)
    (triangle_is 5 12 13 (omega arith) (omega arith) (omega arith))
    (either IsTriangle (nat_eq n 2) (tilt_is 8 15 17) (tilt_is 7 24 25)
    (triangle_is 8 15 17 (omega arith) (omega arith) (omega arith))
    (triangle_is 7 24 25 (omega arith) (omega arith) (omega arith))))

mirrored_made : (t : Tilt) → IsTriangle t → IsTriangle (mirrored t)
mirrored_made t is = record { some = is.some; p = is.p; q = turned t.q t.r is.q }
  where
    turned : (z : ℤ) (m : ℕ) → unsigned_abs z ≤ m → unsigned_abs (neg_ℤ z) ≤ m
    turned z m h = omega (arith, ints)

tilt_made : (n : ℕ) → IsTriangle (tilt_of n)
tilt_made n =
    let t = triangle (n % 4) in
    let is = triangle_made (n % 4) in
    either IsTriangle (nat_lt n 4) t (mirrored t) is (mirrored_made t is)

pub orbit_made : (s : ℕ) → IsMade (orbit_from s)
orbit_made s =
    let a = next_state s in
    let b = next_state a in
    let c = next_state b in
    record { near = near_drawn (drawn_at a % 41) (drawn_at b % 97) (omega arith) (omega arith); tilt = tilt_made (drawn_at c % 8) }

-- ---- places and rates

abbrev pub AreWithin : ℕ → Vector → Type 0
AreWithin m v = IsWithin m v.x × IsWithin m v.y × IsWithin m v.z

leg_within : (p y : ℤ) (r m : ℕ) → 0 < r → IsWithin r p → IsWithin m y → IsWithin m (floor_div (p *ℤ y) r)
leg_within p y r m some leg size = floor_div_within (p *ℤ y) r m some (widened (p *ℤ y) r m (product_within p y r m leg size))
  where
    widened : (z : ℤ) (r m : ℕ) → unsigned_abs z ≤ r * m → unsigned_abs z ≤ m * r
    widened z r m h = omega arith

lifted_within : (m : ℕ) (t : Tilt) (v : Point) → IsTriangle t → IsInSquare m v → AreWithin m (lifted t v)
lifted_within m t v is size = (size.0, leg_within t.p v.y t.r m is.some is.p size.1, leg_within t.q v.y t.r m is.some is.q size.1)

turned_within : (o : Orbit) → IsMade o → (n : ℕ) → n ≤ 1440 → IsInSquare 7100000 (after_turns n o.first)
turned_within o is n few = in_square 7100000 (after_turns n o.first) (few_near n 7000000 7100000 o.first (omega arith) is.near)

-- the place at a node in metres, the rate there in mm/s
abbrev pub place_at : Orbit → ℕ → Vector
place_at o n = lifted o.tilt (after_turns n o.first)

abbrev pub speed_at : Orbit → ℕ → Vector
speed_at o n = lifted o.tilt (rate_at (after_turns n o.first))

pub place_within : (o : Orbit) → IsMade o → (n : ℕ) → n ≤ 1440 → AreWithin 15000000 (place_at o n)
place_within o is n few =
    let w = lifted_within 7100000 o.tilt (after_turns n o.first) is.tilt (turned_within o is n few) in
    (omega (arith, w.0), omega (arith, w.1), omega (arith, w.2))

pub speed_within : (o : Orbit) → IsMade o → (n : ℕ) → n ≤ 1440 → AreWithin 15000000 (speed_at o n)
speed_within o is n few =
    let p = after_turns n o.first in
    let w = lifted_within 14200000 o.tilt (rate_at p) is.tilt (rate_within 7100000 p (turned_within o is n few)) in
    (omega (arith, w.0), omega (arith, w.1), omega (arith, w.2))

-- in finer units they are within the limits
larger_within : (z : ℤ) (k m : ℕ) → unsigned_abs z ≤ 15000000 → 15000000 * k ≤ m → limits.IsWithin m (z *ℤ pos k)
larger_within z k m h fits = bounds (z *ℤ pos k) (15000000 * k) m (product_within z (pos k) 15000000 k h (omega arith)) fits
  where
    bounds : (y : ℤ) (n m : ℕ) → unsigned_abs y ≤ n → n ≤ m → limits.IsWithin m y
    bounds y n m h fits = (omega (arith, ints), omega (arith, ints))

vector_is : (limit k : ℕ) (v : Vector) → AreWithin 15000000 v → 15000000 * k ≤ limit → IsVector limit (times k v)
vector_is limit k v w fits = record { x = larger_within v.x k limit w.0 fits; y = larger_within v.y k limit w.1 fits; z = larger_within v.z k limit w.2 fits }

pub place_is : (o : Orbit) → IsMade o → (n : ℕ) → n ≤ 1440 → IsVector MAX_COORDINATE (times 1_000_000_000 (place_at o n))
place_is o is n few = vector_is MAX_COORDINATE 1_000_000_000 (place_at o n) (place_within o is n few) (omega arith)

pub speed_is : (o : Orbit) → IsMade o → (n : ℕ) → n ≤ 1440 → IsVector MAX_RATE (times 1_000_000 (speed_at o n))
speed_is o is n few = vector_is MAX_RATE 1_000_000 (speed_at o n) (speed_within o is n few) (omega arith)
