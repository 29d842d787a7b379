-- The axes of a state: how long they are, and how near to those of what is exact.
use Rattle.std.proofs.Common.{◌≡◌, ℕ, ◌+◌, ◌-◌, ◌*◌, ◌<◌, ◌≤◌, arith, sym, ap, subst, ◌∙◌}
use Rattle.std.proofs.Math.Nat.{mul-le-mul, mul-le-mul_left, mul-le-mul_right, le_of_mul-le-mul_right}
use Rattle.std.proofs.lemmas.Int.{ints, unsigned_abs-mul}
use Rattle.std.specs.Prelude.{ℤ, pos, ◌+ℤ◌, ◌*ℤ◌, unsigned_abs}
use Rattle.cj_interval.specs.Sizes.{IsWithin}
use Rattle.cj_interval.proofs.SquareLemmas.{root-le}
use Rattle.cj_track.specs.Limits.{MAX_RATE}
use Rattle.cj_hermite.specs.Limits.{REACH}
use Rattle.cj_rtn.specs.declared.state.State.{State}
use Rattle.cj_rtn.specs.declared.vector.Vector.{Vector}
use Rattle.cj_rtn.specs.Axes.{LEAST_SQUARE, NORMAL_UNIT, TRANSVERSE_UNIT, normal, transverse}
use Rattle.cj_rtn.specs.Vectors.{IsEachWithin, dot, cross, less, divided, square, size}
use Rattle.cj_rtn.proofs.AlongLemmas.{IsEnough, size_from, size_upto, size_le, size_ge}
use Rattle.cj_rtn.proofs.VectorLemmas.{IsUpTo, IsFrom, IsBy, times, each_upto, products, dot_within, across_first, dot-less, dot-times, dot_turned, near_upto, near_from, by_turned, by_steps, times_upto, times_by, times-times, cross-times, cross_by, divided_by}

-- a state from which there are axes
pub record HasAxes (s : State) : Type 0 where
  pub place : IsEachWithin REACH s.place
  pub rate : IsEachWithin MAX_RATE s.rate
  pub far : LEAST_SQUARE ≤ square s.place
  pub turning : LEAST_SQUARE ≤ square (normal s)

-- ---- lengths

pub place_ge : (s : State) → HasAxes s → 1_000_000_000_000_000 ≤ size s.place
place_ge s has = size_ge 1_000_000_000_000_000 s.place (record { square_ge = omega (arith, has.far) })

pub place_le : (s : State) → HasAxes s → size s.place ≤ 910_000_000_000_000_000
place_le s has =
    let all = each_upto REACH s.place has.place in
    size_le 910_000_000_000_000_000 s.place (record { square_le = omega arith })

pub normal_ge : (s : State) → HasAxes s → 1_000_000_000_000_000 ≤ size (normal s)
normal_ge s has = size_ge 1_000_000_000_000_000 (normal s) (record { square_ge = omega (arith, has.turning) })

rate_upto : (s : State) → HasAxes s → IsUpTo 35_000_000_000_000 s.rate
rate_upto s has = let all = each_upto MAX_RATE s.rate has.rate in record { square_le = omega arith }

-- the normal divided by d is nearly across the place
across : (r v : Vector) (d : ℕ) → 0 < d → IsWithin (2 * (size r + 1)) (dot r (divided (cross r v) d))
across r v d some =
    let h = divided (cross r v) d in
    let near = divided_by (cross r v) d some in
    let left : IsUpTo (2 * d) (less (cross r v) (times d h)) = record { square_le = near.square_le } in
    let small = dot_within (size r + 1) (2 * d) r (less (cross r v) (times d h)) (size_upto r) left in
    let zero : pos d *ℤ dot r h +ℤ dot r (less (cross r v) (times d h)) ≡ pos 0 =
    ap (λ (z : ℤ). z +ℤ dot r (less (cross r v) (times d h))) (sym (dot-times d r h)) ∙ sym (dot-less r (cross r v) (times d h)) ∙ dot_turned r (cross r v) ∙ across_first r v in
    let sizes = unsigned_abs-mul (pos d) (dot r h) in
    let up : unsigned_abs (dot r h) * d ≤ 2 * (size r + 1) * d =
    bound (pos d *ℤ dot r h) (dot r (less (cross r v) (times d h))) d (unsigned_abs (dot r h)) (size r) sizes zero small in
    le_of_mul-le-mul_right up some
  where
    bound : (p q : ℤ) (d n s : ℕ) → unsigned_abs p ≡ d * n → p +ℤ q ≡ pos 0 → IsWithin ((s + 1) * (2 * d)) q → n * d ≤ 2 * (s + 1) * d
    bound p q d n s e f h = let same : unsigned_abs p ≡ unsigned_abs q = omega (arith, ints) in omega arith

-- so their vector product is nearly as long as both
product_from : (h r : Vector) (n : ℕ) → n + 1 ≡ size h → 1000 ≤ n → 1000 ≤ size r → IsWithin (2 * (size r + 1)) (dot r h) → IsFrom (n * size r) (cross h r)
product_from h r n is many long small =
    let one = (size_from h).square_ge in
    let two = (size_from r).square_ge in
    let both : size h * size h * (size r * size r) ≤ square h * square r = mul-le-mul one two in
    let sum = products h r in
    let turned : unsigned_abs (dot h r) ≤ 2 * (size r + 1) = subst (λ (z : ℤ). IsWithin (2 * (size r + 1)) z) (dot_turned r h) small in
    let short = mul-le-mul turned turned in
    let more : 1000 * (size r * size r) ≤ n * (size r * size r) = mul-le-mul_right (size r * size r) many in
    let linear : 1000 * size r ≤ size r * size r = mul-le-mul_right (size r) long in
    record { square_ge = enough n (size h) (size r) (square h * square r) (unsigned_abs (dot h r) * unsigned_abs (dot h r)) (square (cross h r)) is long both sum short more linear }
  where
    last : (a b c q p u x r : ℕ) → a ≤ p → p ≡ u + x → u ≤ 4 * q + 8 * r + 4 → 1000 * q ≤ c → 1000 * r ≤ q → a ≡ b + 2 * c + q → 1000 ≤ r → b ≤ x
    last a b c q p u x r h1 h2 h3 h4 h5 h6 h7 = omega arith

    enough : (n h r p u x : ℕ) → n + 1 ≡ h → 1000 ≤ r → h * h * (r * r) ≤ p → p ≡ u + x → u ≤ 2 * (r + 1) * (2 * (r + 1)) → 1000 * (r * r) ≤ n * (r * r) → 1000 * r ≤ r * r → n * r * (n * r) ≤ x
    enough n h r p u x is long both sum short more linear =
        let same : h * h * (r * r) ≡ n * r * (n * r) + 2 * (n * (r * r)) + r * r = subst (λ (k : ℕ). k * k * (r * r) ≡ n * r * (n * r) + 2 * (n * (r * r)) + r * r) is (omega arith) in
        let wide : 2 * (r + 1) * (2 * (r + 1)) ≡ 4 * (r * r) + 8 * r + 4 = omega arith in
        last (h * h * (r * r)) (n * r * (n * r)) (n * (r * r)) (r * r) p u x r both sum (omega arith) more linear same long

-- how long the transverse is
pub transverse_room : (s : State) (n : ℕ) → HasAxes s → n + 1 ≡ size (normal s) → n * size s.place ≤ 1_000_000_000_000_000_000 * (size (transverse s) + 1) + 2_000_000_000_000_000_000
unfolding normal transverse
transverse_room s n has is =
    let h = normal s in
    let r = s.place in
    let t = transverse s in
    let many = normal_ge s has in
    let long = place_ge s has in
    let product = product_from h r n is (omega arith) (omega arith) (across r s.rate NORMAL_UNIT (omega arith)) in
    let near = by_turned 2_000_000_000_000_000_000 (times TRANSVERSE_UNIT t) (cross h r) (divided_by (cross h r) TRANSVERSE_UNIT (omega arith)) in
    let up = (times_upto TRANSVERSE_UNIT (size t + 1) t (size_upto t)).square_le in
    let order = mul-le-mul many long in
    let least : 1_000_000 * size r ≤ n * size r = mul-le-mul_right (size r) (omega arith) in
    let split : n * size r - 2_000_000_000_000_000_000 + 2_000_000_000_000_000_000 ≡ n * size r = omega arith in
    let from = near_from (n * size r - 2_000_000_000_000_000_000) 2_000_000_000_000_000_000 (cross h r) (times TRANSVERSE_UNIT t) (subst (λ (m : ℕ). IsFrom m (cross h r)) (sym split) product) near in
    let root = root-le (n * size r - 2_000_000_000_000_000_000) (TRANSVERSE_UNIT * (size t + 1)) (omega (arith, from.square_ge, up)) in
    omega arith

pub transverse_ge : (s : State) → HasAxes s → 999_999_999_000 ≤ size (transverse s)
transverse_ge s has =
    let many = normal_ge s has in
    let long = place_ge s has in
    let n = size (normal s) - 1 in
    let is : n + 1 ≡ size (normal s) = omega arith in
    let room = transverse_room s n has is in
    let low : 999_999_999_999_999 ≤ n = omega arith in
    let order : 999_999_999_999_999 * 1_000_000_000_000_000 ≤ n * size s.place = mul-le-mul low long in
    omega arith

-- ---- what suffices for one millimetre

pub radial_enough : (s : State) → HasAxes s → IsEnough (size s.place) 1 4
radial_enough s has = let long = place_ge s has in record { long = omega arith; room = omega arith }

-- how far the exact normal is, for each unit of the denominators
abbrev pub normal_gap : State → ℕ
normal_gap s = 2 * (size s.place + 1) + 160_000_000_000_008

pub normal_enough : (s : State) → HasAxes s → IsEnough (size (normal s)) NORMAL_UNIT (normal_gap s)
normal_enough s has =
    let long = place_le s has in
    let many = normal_ge s has in
    record { long = omega arith; room = room (size s.place) (size (normal s)) long many }
  where
    room : (r h : ℕ) → r ≤ 910_000_000_000_000_000 → 1_000_000_000_000_000 ≤ h → let e = 2 * (r + 1) + 160_000_000_000_008 in
        1_100_000_000_002_000 * (e + 10_000_000_000_000) + 8 * (10_000_000_000_000 * (h + 1)) + 1_100_000_000_000_000 * e + 1_000_000 * e ≤ 1_000_000 * (10_000_000_000_000 * h)
    room r h a b = omega arith

-- the same of the transverse
abbrev pub transverse_gap : State → ℕ
transverse_gap s = normal_gap s * (size s.place + 5) + 40_000_000_000_000 * (size (normal s) + 1) + 20_000_000_000_000_000_000_000_000_000_000

-- room for a transverse of the length t, where the place has the length r and the normal h
abbrev Room : ℕ → ℕ → ℕ → Type 0
Room r h t =
    let e : ℕ = (2 * (r + 1) + 160_000_000_000_008) * (r + 5) + 40_000_000_000_000 * (h + 1) + 20_000_000_000_000_000_000_000_000_000_000 in
    let f : ℕ = 10_000_000_000_000_000_000_000_000_000_000 in
    1_100_000_000_002_000 * (e + f) + 8 * (f * (t + 1)) + 1_100_000_000_000_000 * e + 1_000_000 * e ≤ 1_000_000 * (f * t)

gap_le : (r n q : ℕ) → 1_000_000_000_000_000 ≤ r → q ≤ 910_000_000_000_000_000 * r
    → 2 * q + 160_000_000_000_020 * r + 800_000_000_000_050 + 40_000_000_000_000 * (n + 1 + 1) + 20_000_000_000_000_000_000_000_000_000_000 ≤ 1_850_000_000_000_000_000 * r + 40_000_000_000_000 * n
gap_le r n q a b = omega arith

linear : (r n t e p : ℕ) → 1_000_000_000_000_000 ≤ r → 999_999_999_999_999 ≤ n → e ≤ 1_850_000_000_000_000_000 * r + 40_000_000_000_000 * n → 999_999_999_999_999 * r ≤ p → 1_000_000_000_000_000 * n ≤ p
    → p ≤ 1_000_000_000_000_000_000 * (t + 1) + 2_000_000_000_000_000_000
    → 1_100_000_000_002_000 * (e + 10_000_000_000_000_000_000_000_000_000_000) + 8 * (10_000_000_000_000_000_000_000_000_000_000 * (t + 1)) + 1_100_000_000_000_000 * e + 1_000_000 * e ≤ 1_000_000 * (10_000_000_000_000_000_000_000_000_000_000 * t)
linear r n t e p a b c d f g = omega arith

room_of : (r n t : ℕ) → r ≤ 910_000_000_000_000_000 → 1_000_000_000_000_000 ≤ r → 999_999_999_999_999 ≤ n → n * r ≤ 1_000_000_000_000_000_000 * (t + 1) + 2_000_000_000_000_000_000 → Room r (n + 1) t
room_of r n t near long many up =
    let square = mul-le-mul_right r near in
    let by_place : 999_999_999_999_999 * r ≤ n * r = mul-le-mul_right r many in
    let by_normal : n * 1_000_000_000_000_000 ≤ n * r = mul-le-mul_left n long in
    let gap = gap_le r n (r * r) long square in
    let same : (2 * (r + 1) + 160_000_000_000_008) * (r + 5) ≡ 2 * (r * r) + 160_000_000_000_020 * r + 800_000_000_000_050 = omega arith in
    linear r n t _ (n * r) long many (omega arith) by_place (omega arith) up

pub transverse_enough : (s : State) → HasAxes s → IsEnough (size (transverse s)) (NORMAL_UNIT * TRANSVERSE_UNIT) (transverse_gap s)
transverse_enough s has =
    let near = place_le s has in
    let long = place_ge s has in
    let many = normal_ge s has in
    let n = size (normal s) - 1 in
    let is : n + 1 ≡ size (normal s) = omega arith in
    record {
      long = transverse_ge s has;
      room = subst (λ (h : ℕ). Room (size s.place) h (size (transverse s))) is
          (room_of (size s.place) n (size (transverse s)) near long (omega arith) (transverse_room s n has is));
    }

-- ---- the exact axes

-- the state is what is whole of an exact one, whose place is p / q and whose rate v / w
pub record IsWholeOf (s : State) (q w : ℕ) (p v : Vector) : Type 0 where
  pub place : IsBy (4 * q) (times q s.place) p
  pub rate : IsBy (2 * w) (times w s.rate) v

pub radial_by : (s : State) (q w : ℕ) (p v : Vector) → IsWholeOf s q w p v → IsBy (q * 4) (times (q * 1) s.place) p
radial_by s q w p v exact =
    let four : 4 * q ≡ q * 4 = omega arith in
    let one : q ≡ q * 1 = omega arith in
    subst (λ (m : ℕ). IsBy (q * 4) (times m s.place) p) one (subst (λ (m : ℕ). IsBy m (times q s.place) p) four exact.place)

pub normal_by : (s : State) (q w : ℕ) (p v : Vector) → HasAxes s → IsWholeOf s q w p v → IsBy (q * w * normal_gap s) (times (q * w * NORMAL_UNIT) (normal s)) (cross p v)
unfolding normal
normal_by s q w p v has exact =
    let r = s.place in
    let fast = near_upto (w * 35_000_000_000_000) (2 * w) (times w s.rate) v (times_upto w 35_000_000_000_000 s.rate (rate_upto s has)) exact.rate in
    let far = times_upto q (size r + 1) r (size_upto r) in
    let product = cross_by (4 * q) (2 * w) (q * (size r + 1)) (w * 35_000_000_000_000 + 2 * w) (times q r) (times w s.rate) p v far fast exact.place exact.rate in
    let whole = times_by (q * w) (2 * NORMAL_UNIT) (times NORMAL_UNIT (normal s)) (cross r s.rate) (divided_by (cross r s.rate) NORMAL_UNIT (omega arith)) in
    let first = subst (λ (a : Vector). IsBy (q * w * (2 * NORMAL_UNIT)) a (times (q * w) (cross r s.rate))) (times-times (q * w) NORMAL_UNIT (normal s)) whole in
    let second = subst (λ (a : Vector). IsBy (q * (size r + 1) * (2 * w) + 4 * q * (w * 35_000_000_000_000 + 2 * w)) a (cross p v)) (cross-times q w r s.rate) product in
    subst (λ (m : ℕ). IsBy m (times (q * w * NORMAL_UNIT) (normal s)) (cross p v)) (sum q w (size r))
    (by_steps _ _ _ _ _ first second)
  where
    sum : (q w r : ℕ) → q * w * (2 * 10_000_000_000_000) + (q * (r + 1) * (2 * w) + 4 * q * (w * 35_000_000_000_000 + 2 * w)) ≡ q * w * (2 * (r + 1) + 160_000_000_000_008)
    sum q w r = omega arith

pub transverse_by : (s : State) (q w : ℕ) (p v : Vector) → HasAxes s → IsWholeOf s q w p v
    → IsBy (q * w * q * transverse_gap s) (times (q * w * q * (NORMAL_UNIT * TRANSVERSE_UNIT)) (transverse s)) (cross (cross p v) p)
unfolding transverse
transverse_by s q w p v has exact =
    let r = s.place in
    let h = normal s in
    let t = transverse s in
    let k = q * w * NORMAL_UNIT in
    let far = near_upto (q * (size r + 1)) (4 * q) (times q r) p (times_upto q (size r + 1) r (size_upto r)) exact.place in
    let product = cross_by (q * w * normal_gap s) (4 * q) (k * (size h + 1)) (q * (size r + 1) + 4 * q) (times k h) (times q r) (cross p v) p
    (times_upto k (size h + 1) h (size_upto h)) far (normal_by s q w p v has exact) exact.place in
    let whole = times_by (k * q) (2 * TRANSVERSE_UNIT) (times TRANSVERSE_UNIT t) (cross h r) (divided_by (cross h r) TRANSVERSE_UNIT (omega arith)) in
    let first = subst (λ (a : Vector). IsBy (k * q * (2 * TRANSVERSE_UNIT)) a (times (k * q) (cross h r))) (times-times (k * q) TRANSVERSE_UNIT t) whole in
    let second = subst (λ (a : Vector). IsBy (k * (size h + 1) * (4 * q) + q * w * normal_gap s * (q * (size r + 1) + 4 * q)) a (cross (cross p v) p)) (cross-times k q h r) product in
    let both = by_steps _ _ _ _ _ first second in
    subst (λ (m : ℕ). IsBy m (times (q * w * q * (NORMAL_UNIT * TRANSVERSE_UNIT)) t) (cross (cross p v) p)) (sum q w (size r) (size h) (normal_gap s))
    (subst (λ (m : ℕ). IsBy (k * q * (2 * TRANSVERSE_UNIT) + (k * (size h + 1) * (4 * q) + q * w * normal_gap s * (q * (size r + 1) + 4 * q))) (times m t) (cross (cross p v) p)) (scale q w) both)
  where
    scale : (q w : ℕ) → q * w * 10_000_000_000_000 * q * 1_000_000_000_000_000_000 ≡ q * w * q * (10_000_000_000_000 * 1_000_000_000_000_000_000)
    scale q w = omega arith

    sum : (q w r h g : ℕ) → q * w * 10_000_000_000_000 * q * (2 * 1_000_000_000_000_000_000) + (q * w * 10_000_000_000_000 * (h + 1) * (4 * q) + q * w * g * (q * (r + 1) + 4 * q))
        ≡ q * w * q * (g * (r + 5) + 40_000_000_000_000 * (h + 1) + 20_000_000_000_000_000_000_000_000_000_000)
    sum q w r h g = omega arith
