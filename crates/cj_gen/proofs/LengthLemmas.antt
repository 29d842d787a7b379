-- A generated file is short.
use Rattle.std.proofs.Common.{ℕ, zero, suc, ◌+◌, ◌*◌, ◌/◌, ◌%◌, ◌^◌, ◌<◌, ◌≤◌, List, [], ◌∷◌, ◌++◌, Bool, true, false, length, decimal, ap, arith}
use Rattle.std.specs.Prelude.{ℤ, pos, flat_map, int_lt, unsigned_abs}
use Rattle.std.specs.List.{range_with_len}
use Rattle.std.proofs.lemmas.Fmt.{length-decimal-le}
use Rattle.std.proofs.lemmas.List.{length-append}
use Rattle.cj_kvn.specs.Decimals.{minus_if}
use Rattle.cj_epoch.specs.Written.{epoch_of, six}
use Rattle.cj_gen.specs.declared.orbit.Orbit.{Orbit}
use Rattle.cj_gen.specs.declared.tilt.Vector.{Vector}
use Rattle.cj_gen.specs.Texts.{covariance_text, head_text, kilometres, kilometres_a_second, naming_text, node_line, oem_of, place_text, rate_text, stamp, three}
use Rattle.cj_gen.proofs.BoundLemmas.{AreWithin, IsMade, place_at, place_within, speed_at, speed_within}
use Rattle.cj_gen.proofs.FigureLemmas.{kilometres_shape, rate_shape}

minus_length : (b : Bool) → length (minus_if b) ≤ 1
minus_length true = omega arith
minus_length false = omega arith

-- a sign, whole digits, a point, decimals
shape_length : (b : Bool) (n k : ℕ) (f : List ℕ) → n < 10 ^ 5 → length f ≤ k → length (minus_if b ++ (decimal n ++ 46 ∷ f)) ≤ k + 7
shape_length b n k f small few =
    omega (arith, length-append (minus_if b) (decimal n ++ 46 ∷ f), length-append (decimal n) (46 ∷ f), minus_length b, length-decimal-le 5 n (omega arith) small (omega arith), few)

kilometres_length : (z : ℤ) → unsigned_abs z ≤ 15000000 → length (kilometres z) ≤ 10
kilometres_length z within =
    let n = unsigned_abs z in
    omega (arith, ap length (kilometres_shape z), shape_length (int_lt z (pos 0)) (n / 1_000) 3 (three (n % 1_000)) (omega arith) (omega arith))

rate_length : (z : ℤ) → unsigned_abs z ≤ 15000000 → length (kilometres_a_second z) ≤ 13
rate_length z within =
    let n = unsigned_abs z in
    omega (arith, ap length (rate_shape z), shape_length (int_lt z (pos 0)) (n / 1_000_000) 6 (six (n % 1_000_000)) (omega arith) (omega arith))

-- three fields, a space before each
three_fields : (a b c : List ℕ) (m : ℕ) → length a ≤ m → length b ≤ m → length c ≤ m → length (32 ∷ [] ++ a ++ 32 ∷ [] ++ b ++ 32 ∷ [] ++ c) ≤ 3 * m + 3
three_fields a b c m first second third =
    omega (
      arith,
      length-append (32 ∷ [] ++ a ++ 32 ∷ [] ++ b ++ 32 ∷ []) c,
      length-append (32 ∷ [] ++ a ++ 32 ∷ [] ++ b) (32 ∷ []),
      length-append (32 ∷ [] ++ a ++ 32 ∷ []) b,
      length-append (32 ∷ [] ++ a) (32 ∷ []),
      length-append (32 ∷ []) a,
      first,
      second,
      third,
    )

place_length : (v : Vector) → AreWithin 15000000 v → length (place_text v) ≤ 33
unfolding place_text
place_length v w =
    three_fields (kilometres v.x) (kilometres v.y) (kilometres v.z) 10 (kilometres_length v.x w.0) (kilometres_length v.y w.1) (kilometres_length v.z w.2)

speed_length : (v : Vector) → AreWithin 15000000 v → length (rate_text v) ≤ 42
unfolding rate_text
speed_length v w =
    three_fields (kilometres_a_second v.x) (kilometres_a_second v.y) (kilometres_a_second v.z) 13 (rate_length v.x w.0) (rate_length v.y w.1) (rate_length v.z w.2)

stamp_length : (n : ℕ) → length (stamp n) ≤ 19
unfolding stamp epoch_of
stamp_length n = omega arith

node_length : (o : Orbit) → IsMade o → (n : ℕ) → n ≤ 1440 → length (node_line o n) ≤ 95
unfolding node_line
node_length o is n few =
    let t = stamp n in
    let p = place_text (place_at o n) in
    let v = rate_text (speed_at o n) in
    omega (
      arith,
      length-append (t ++ p ++ v) (10 ∷ []),
      length-append (t ++ p) v,
      length-append t p,
      stamp_length n,
      place_length (place_at o n) (place_within o is n few),
      speed_length (speed_at o n) (speed_within o is n few),
    )

nodes_length : (o : Orbit) → IsMade o → (a k : ℕ) → a + k ≤ 1441 → length (flat_map (node_line o) (range_with_len a k)) ≤ 95 * k
nodes_length o is a zero within = omega arith
nodes_length o is a (suc k) within =
    let rest = flat_map (node_line o) (range_with_len (a + 1) k) in
    omega (arith, length-append (node_line o a) rest, node_length o is a (omega arith), nodes_length o is (a + 1) k (omega arith))

naming_length : (n : ℕ) → length (naming_text n) ≤ 300
naming_length n = omega arith

head_length : (number minutes : ℕ) → length (head_text number minutes) ≤ 500
unfolding head_text stamp epoch_of
head_length number minutes = omega arith

pub file_short : (number : ℕ) (o : Orbit) (minutes : ℕ) → IsMade o → minutes ≤ 1440 → length (oem_of number o minutes) + 1 < 2 ^ 32
unfolding oem_of
file_short number o minutes is few =
    let head = head_text number minutes in
    let rows = flat_map (node_line o) (range_with_len 0 (minutes + 1)) in
    let covariance : length covariance_text ≤ 300 = omega arith in
    omega (arith, length-append (head ++ rows) covariance_text, length-append head rows, head_length number minutes, nodes_length o is 0 (minutes + 1) (omega arith), covariance)
