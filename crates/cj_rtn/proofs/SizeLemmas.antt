-- How large the components of products and quotients of vectors are.
use Rattle.std.proofs.Common.{ℕ, ◌+◌, ◌*◌, ◌^◌, ◌<◌, ◌≤◌, arith}
use Rattle.std.proofs.lemmas.Int.{ints}
use Rattle.std.specs.Prelude.{ℤ, ◌+ℤ◌, ◌-ℤ◌, ◌*ℤ◌, unsigned_abs}
use Rattle.cj_interval.specs.Sizes.{IsWithin}
use Rattle.cj_interval.proofs.MachineLemmas.{product_within}
use Rattle.cj_interval.proofs.SizeLemmas.{floor_div_within}
use Rattle.cj_track.specs.Limits.{MAX_RATE}
use Rattle.cj_hermite.specs.Limits.{REACH}
use Rattle.cj_rtn.specs.declared.state.State.{State}
use Rattle.cj_rtn.specs.declared.vector.Vector.{Vector}
use Rattle.cj_rtn.specs.Axes.{NORMAL_UNIT, TRANSVERSE_UNIT, normal, transverse}
use Rattle.cj_rtn.specs.Vectors.{IsEachWithin, dot, cross, less, divided, size, along}
use Rattle.cj_rtn.proofs.AlongLemmas.{size_next, below_next}
use Rattle.cj_rtn.proofs.VectorLemmas.{square_sum}

pub each_more : (m n : ℕ) (a : Vector) → m ≤ n → IsEachWithin m a → IsEachWithin n a
each_more m n a le h = record { x = omega (arith, h.x); y = omega (arith, h.y); z = omega (arith, h.z) }

minor_within : (m n : ℕ) (a b c d : ℤ) → IsWithin m a → IsWithin n b → IsWithin m c → IsWithin n d → IsWithin (2 * (m * n)) (a *ℤ b -ℤ c *ℤ d)
minor_within m n a b c d ha hb hc hd =
    let p = product_within a b m n ha hb in
    let q = product_within c d m n hc hd in
    apart (a *ℤ b) (c *ℤ d) (m * n) p q
  where
    apart : (p q : ℤ) (m : ℕ) → IsWithin m p → IsWithin m q → IsWithin (2 * m) (p -ℤ q)
    apart p q m h k = omega (arith, ints)

pub cross_each : (m n : ℕ) (a b : Vector) → IsEachWithin m a → IsEachWithin n b → IsEachWithin (2 * (m * n)) (cross a b)
unfolding cross
cross_each m n a b h k = record {
  x = minor_within m n a.y b.z a.z b.y h.y k.z h.z k.y;
  y = minor_within m n a.z b.x a.x b.z h.z k.x h.x k.z;
  z = minor_within m n a.x b.y a.y b.x h.x k.y h.y k.x;
}

pub less_each : (m n : ℕ) (a b : Vector) → IsEachWithin m a → IsEachWithin n b → IsEachWithin (m + n) (less a b)
unfolding less
less_each m n a b h k = record { x = apart a.x b.x m n h.x k.x; y = apart a.y b.y m n h.y k.y; z = apart a.z b.z m n h.z k.z }
  where
    apart : (p q : ℤ) (m n : ℕ) → IsWithin m p → IsWithin n q → IsWithin (m + n) (p -ℤ q)
    apart p q m n h k = omega (arith, ints)

pub divided_each : (m d : ℕ) (a : Vector) → 0 < d → IsEachWithin (m * d) a → IsEachWithin m (divided a d)
unfolding divided
divided_each m d a some h = record { x = floor_div_within a.x d m some h.x; y = floor_div_within a.y d m some h.y; z = floor_div_within a.z d m some h.z }

pub normal_each : (s : State) → IsEachWithin REACH s.place → IsEachWithin MAX_RATE s.rate → IsEachWithin 2_096_000_000_000_000_000 (normal s)
unfolding normal
normal_each s place rate =
    divided_each 2_096_000_000_000_000_000 NORMAL_UNIT (cross s.place s.rate) (omega arith)
    (each_more _ _ (cross s.place s.rate) (omega arith) (cross_each REACH MAX_RATE s.place s.rate place rate))

pub transverse_each : (s : State) → IsEachWithin REACH s.place → IsEachWithin 2_096_000_000_000_000_000 (normal s) → IsEachWithin (2 ^ 61) (transverse s)
unfolding transverse
transverse_each s place across =
    divided_each (2 ^ 61) TRANSVERSE_UNIT (cross (normal s) s.place) (omega arith)
    (each_more _ _ (cross (normal s) s.place) (omega arith) (cross_each 2_096_000_000_000_000_000 REACH (normal s) s.place across place))

-- a component is at most as large as the length
pub size_each : (b : Vector) → IsEachWithin (size b) b
size_each b =
    let sum = square_sum b in
    let next = size_next b in
    record {
      x = below_next (unsigned_abs b.x) (size b) (omega arith);
      y = below_next (unsigned_abs b.y) (size b) (omega arith);
      z = below_next (unsigned_abs b.z) (size b) (omega arith);
    }

-- so a value along an axis is at most three times the components of the vector
pub along_within : (x b : Vector) → 0 < size b → IsEachWithin (2 ^ 60) x → IsWithin (2 ^ 62) (along x b)
unfolding along dot
along_within x b some h =
    let s = size b in
    let each = size_each b in
    let p = product_within x.x b.x (2 ^ 60) s h.x each.x in
    let q = product_within x.y b.y (2 ^ 60) s h.y each.y in
    let r = product_within x.z b.z (2 ^ 60) s h.z each.z in
    floor_div_within (x.x *ℤ b.x +ℤ x.y *ℤ b.y +ℤ x.z *ℤ b.z) s (2 ^ 62) some (sum (x.x *ℤ b.x) (x.y *ℤ b.y) (x.z *ℤ b.z) s p q r)
  where
    sum : (p q r : ℤ) (s : ℕ) → IsWithin (2 ^ 60 * s) p → IsWithin (2 ^ 60 * s) q → IsWithin (2 ^ 60 * s) r → IsWithin (2 ^ 62 * s) (p +ℤ q +ℤ r)
    sum p q r s h j k = omega (arith, ints)
