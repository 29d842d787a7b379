-- The ephemeris of an orbit, as text.
use Rattle.std.specs.Prelude.{ℕ, ◌+◌, ◌*◌, ◌/◌, ◌%◌, if◌then◌else◌, List, [], ◌∷◌, ◌++◌, take, ℤ, pos, unsigned_abs, int_lt, decimal, codes, flat_map}
use Rattle.std.specs.List.{range_with_len}
use Rattle.cj_base.specs.Ticks.{MINUTE}
use Rattle.cj_epoch.specs.Written.{epoch_of, two, six}
use Rattle.cj_kvn.specs.Entries.{line}
use Rattle.cj_gen.specs.declared.orbit.Orbit.{Orbit}
use Rattle.cj_gen.specs.declared.tilt.Vector.{Vector}
use Rattle.cj_gen.specs.Orbits.{after_turns, rate_at, lifted}

-- the last three digits of a number
abbrev pub three : ℕ → List ℕ
three n = (48 + n / 100 % 10) ∷ two n

-- the last five
abbrev pub five : ℕ → List ℕ
five n = three (n / 100) ++ two n

-- the minus of a negative number
abbrev pub sign : ℤ → List ℕ
sign z = if int_lt z (pos 0) then 45 ∷ [] else []

-- a number of metres as km
unfoldable pub kilometres : ℤ → List ℕ
kilometres z = let size = unsigned_abs z in sign z ++ decimal (size / 1000) ++ codes "." ++ three (size % 1000)

-- a number of mm/s as km/s
unfoldable pub kilometres_a_second : ℤ → List ℕ
kilometres_a_second z = let size = unsigned_abs z in sign z ++ decimal (size / 1000000) ++ codes "." ++ six (size % 1000000)

-- a space and a number for each axis
unfoldable pub place_text : Vector → List ℕ
place_text v = codes " " ++ kilometres v.x ++ codes " " ++ kilometres v.y ++ codes " " ++ kilometres v.z

unfoldable pub rate_text : Vector → List ℕ
rate_text v = codes " " ++ kilometres_a_second v.x ++ codes " " ++ kilometres_a_second v.y ++ codes " " ++ kilometres_a_second v.z

-- so many minutes after 2025-01-01T00:00:00, to the second
unfoldable pub stamp : ℕ → List ℕ
stamp minutes = take 19 (epoch_of (1_735_689_600_000_000 + minutes * MINUTE))

-- the node so many minutes after the first: its epoch, its place, its rate
unfoldable pub node_line : Orbit → ℕ → List ℕ
node_line orbit n =
    let p = after_turns n orbit.first in
    line (stamp n ++ place_text (lifted orbit.tilt p) ++ rate_text (lifted orbit.tilt (rate_at p)))

-- the frame and the first epoch
abbrev pub frame_text : List ℕ
frame_text =
    line (codes "CENTER_NAME = EARTH") ++ line (codes "REF_FRAME = EME2000") ++ line (codes "TIME_SYSTEM = UTC")
    ++ line (codes "START_TIME = 2025-01-01T00:00:00")

-- the header, and the metadata up to the first epoch
abbrev pub naming_text : ℕ → List ℕ
naming_text number =
    line (codes "CCSDS_OEM_VERS = 2.0") ++ line (codes "CREATION_DATE = 2025-01-01T00:00:00") ++ line (codes "ORIGINATOR = CONJ")
    ++ line (codes "META_START") ++ line (codes "OBJECT_NAME = GEN " ++ five number) ++ line (codes "OBJECT_ID = GEN-" ++ five number)
    ++ frame_text

-- the metadata behind the last epoch
abbrev pub ending_text : List ℕ
ending_text = line (codes "INTERPOLATION = HERMITE") ++ line (codes "INTERPOLATION_DEGREE = 3") ++ line (codes "META_STOP")

-- the header and the metadata of the object with this number
unfoldable pub head_text : ℕ → ℕ → List ℕ
head_text number minutes = naming_text number ++ line (codes "STOP_TIME = " ++ stamp minutes) ++ ending_text

-- the covariance at the first node: 10 m in each place, 1 cm/s in each rate
abbrev pub covariance_text : List ℕ
covariance_text =
    line (codes "COVARIANCE_START") ++ line (codes "EPOCH = 2025-01-01T00:00:00") ++ line (codes "COV_REF_FRAME = RTN")
    ++ line (codes "1E-4") ++ line (codes "0 1E-4") ++ line (codes "0 0 1E-4") ++ line (codes "0 0 0 1E-10")
    ++ line (codes "0 0 0 0 1E-10") ++ line (codes "0 0 0 0 0 1E-10") ++ line (codes "COVARIANCE_STOP")

-- the file of the object with this number: a node for each minute
unfoldable pub oem_of : ℕ → Orbit → ℕ → List ℕ
oem_of number orbit minutes = head_text number minutes ++ flat_map (node_line orbit) (range_with_len 0 (minutes + 1)) ++ covariance_text
