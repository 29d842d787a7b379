-- The least and the greatest of numbers of 128 bits that were read again.
use Rattle.std.proofs.Common.{◌≡◌, ℕ, ◌-◌, ◌^◌, ◌<◌, List, length, arith, ap, subst, sym, ◌∙◌, to_z, of_z}
use Rattle.std.proofs.lemmas.Int.{ints, clamps, by_lt_z}
use Rattle.std.specs.Prelude.{ℤ, pos, ◌+ℤ◌, ◌*ℤ◌, ◌≤ℤ◌, ◌<ℤ◌, unsigned_abs}
use Rattle.std.specs.Int.{int_min, int_max}
use mir.Syntax.{w128}
use Rattle.cj_interval.specs.declared.span.Span.{Span}
use Rattle.cj_interval.specs.Rounding.{floor_div, ceil_div}
use Rattle.cj_interval.specs.Spans.{IsWithin}
use Rattle.cj_interval.proofs.FractionLemmas.{floor_div-unique}
use Rattle.cj_interval.proofs.IntegerLemmas.{mul-le_right, add-mul_ℤ}
use Rattle.cj_interval.proofs.MachineLemmas.{back}
use Rattle.cj_interval.proofs.RoundingLemmas.{floor_div-le, floor_div-gt, ceil_div-ge, ceil_div-lt, ceil_div-unique}

-- r is a, which is at most 2 ^ 126 in size
pub record IsSized (r a : ℤ) : Type 0 where
  pub value : r ≡ a
  pub within : IsWithin (2 ^ 126) a

-- what is within a bound is within the next one
pub weaker : (z : ℤ) → IsWithin (2 ^ 126 - 1) z → IsWithin (2 ^ 126) z
weaker z w = omega (arith, ints)

-- each place below seven is one of a list of seven
pub inside : (spans : List Span) (k : ℕ) → k < 7 → length spans ≡ 7 → k < length spans
inside spans k lt seven = rw seven lt

read_again : (r a : ℤ) → IsSized r a → to_z w128 (of_z w128 r) ≡ a
read_again r a s =
    let h : unsigned_abs a < 2 ^ 127 = let w = s.within in omega arith in
    back r (subst (λ (z : ℤ). unsigned_abs z < 2 ^ 127) (sym s.value) h) ∙ s.value

pub least_step : (r p q a b : ℤ) → IsSized p a → IsSized q b → r ≡ int_min (to_z w128 (of_z w128 p)) (to_z w128 (of_z w128 q)) → IsSized r (int_min a b)
least_step r p q a b s t e =
    let v = s.within in let w = t.within in
    record {
      value = e ∙ ap (λ z. int_min z (to_z w128 (of_z w128 q))) (read_again p a s) ∙ ap (λ z. int_min a z) (read_again q b t);
      within = omega (arith, ints, clamps);
    }

pub greatest_step : (r p q a b : ℤ) → IsSized p a → IsSized q b → r ≡ int_max (to_z w128 (of_z w128 p)) (to_z w128 (of_z w128 q)) → IsSized r (int_max a b)
greatest_step r p q a b s t e =
    let v = s.within in let w = t.within in
    record {
      value = e ∙ ap (λ z. int_max z (to_z w128 (of_z w128 q))) (read_again p a s) ∙ ap (λ z. int_max a z) (read_again q b t);
      within = omega (arith, ints, clamps);
    }

pub sized : (r a : ℤ) → r ≡ a → IsWithin (2 ^ 126) r → IsSized r a
sized r a e w = record { value = e; within = subst (λ (z : ℤ). IsWithin (2 ^ 126) z) e w }

pub read_sized : (r a : ℤ) → IsSized r a → IsWithin (2 ^ 126) (to_z w128 (of_z w128 r))
read_sized r a s = subst (λ (z : ℤ). IsWithin (2 ^ 126) z) (sym (read_again r a s)) s.within

pub read_value : {A : Type 0} (f : ℤ → A) (r a : ℤ) (x : A) → IsSized r a → x ≡ f (to_z w128 (of_z w128 r)) → x ≡ f a
read_value f r a x s e = e ∙ ap f (read_again r a s)

-- ---- the least and the greatest of quotients by one divisor

not_above : (f g : ℤ) (d : ℕ) → (f *ℤ pos d) <ℤ (g *ℤ pos d +ℤ pos d) → f ≤ℤ g
not_above f g d h =
    by_lt_z g f
    (λ l.
    let q : (g +ℤ pos 1) ≤ℤ f = omega (arith, ints) in
    let r = mul-le_right (g +ℤ pos 1) f d q in
    absurd (omega (arith, ints, add-mul_ℤ g (pos 1) (pos d))))
    (λ l. l)

floor_div-mono : (a b : ℤ) (d : ℕ) → 0 < d → a ≤ℤ b → floor_div a d ≤ℤ floor_div b d
floor_div-mono a b d p h = let l = floor_div-le a d p in let g = floor_div-gt b d p in not_above _ _ d (omega (arith, ints))

ceil_div-mono : (a b : ℤ) (d : ℕ) → 0 < d → a ≤ℤ b → ceil_div a d ≤ℤ ceil_div b d
ceil_div-mono a b d p h = let l = ceil_div-lt a d p in let g = ceil_div-ge b d p in not_above _ _ d (omega (arith, ints))

min_first : (a b : ℤ) → a ≤ℤ b → int_min a b ≡ a
min_first a b h = omega (arith, ints, clamps)

min_second : (a b : ℤ) → b ≤ℤ a → int_min a b ≡ b
min_second a b h = omega (arith, ints, clamps)

max_first : (a b : ℤ) → b ≤ℤ a → int_max a b ≡ a
max_first a b h = omega (arith, ints, clamps)

max_second : (a b : ℤ) → a ≤ℤ b → int_max a b ≡ b
max_second a b h = omega (arith, ints, clamps)

pub floor_div-min : (a b : ℤ) (d : ℕ) → 0 < d → floor_div (int_min a b) d ≡ int_min (floor_div a d) (floor_div b d)
floor_div-min a b d p =
    by_lt_z a b
    (λ l. let h : a ≤ℤ b = omega (arith, ints) in ap (λ (z : ℤ). floor_div z d) (min_first a b h) ∙ sym (min_first _ _ (floor_div-mono a b d p h)))
    (λ h. ap (λ (z : ℤ). floor_div z d) (min_second a b h) ∙ sym (min_second _ _ (floor_div-mono b a d p h)))

pub ceil_div-max : (a b : ℤ) (d : ℕ) → 0 < d → ceil_div (int_max a b) d ≡ int_max (ceil_div a d) (ceil_div b d)
ceil_div-max a b d p =
    by_lt_z a b
    (λ l. let h : a ≤ℤ b = omega (arith, ints) in ap (λ (z : ℤ). ceil_div z d) (max_second a b h) ∙ sym (max_second _ _ (ceil_div-mono a b d p h)))
    (λ h. ap (λ (z : ℤ). ceil_div z d) (max_first a b h) ∙ sym (max_first _ _ (ceil_div-mono b a d p h)))

pub floor_div-one : (z : ℤ) → floor_div z 1 ≡ z
floor_div-one z = sym (floor_div-unique z z 1 0 (omega (arith, ints)) (omega arith))

pub ceil_div-one : (z : ℤ) → z ≡ ceil_div z 1
ceil_div-one z = ceil_div-unique z z 1 (omega arith) (omega (arith, ints)) (omega (arith, ints))

-- ---- seven numbers in two orders

-- an operation whose result is at most both numbers, and the greatest such number, in the order R
record IsMeet (m : ℤ → ℤ → ℤ) (R : ℤ → ℤ → Type 0) : Type 0 where
  same : (x : ℤ) → R x x
  equal : (x y : ℤ) → R x y → R y x → x ≡ y
  lower : (x a b : ℤ) → R x (m a b) → R x a × R x b
  meet : (x a b : ℤ) → R x a → R x b → R x (m a b)

in_pairs : (m : ℤ → ℤ → ℤ) (R : ℤ → ℤ → Type 0) → IsMeet m R → (a b c d e f g : ℤ)
    → m (m (m (m a g) (m b f)) (m c e)) (m d d) ≡ m (m (m (m (m (m a b) c) d) e) f) g
in_pairs m R o a b c d e f g =
    let x = m (m (m (m a g) (m b f)) (m c e)) (m d d) in
    let y = m (m (m (m (m (m a b) c) d) e) f) g in
    let u1 = o.lower x (m (m (m a g) (m b f)) (m c e)) (m d d) (o.same x) in
    let u2 = o.lower x (m (m a g) (m b f)) (m c e) u1.0 in
    let u3 = o.lower x (m a g) (m b f) u2.0 in
    let ag = o.lower x a g u3.0 in
    let bf = o.lower x b f u3.1 in
    let ce = o.lower x c e u2.1 in
    let dd = o.lower x d d u1.1 in
    let v1 = o.lower y (m (m (m (m (m a b) c) d) e) f) g (o.same y) in
    let v2 = o.lower y (m (m (m (m a b) c) d) e) f v1.0 in
    let v3 = o.lower y (m (m (m a b) c) d) e v2.0 in
    let v4 = o.lower y (m (m a b) c) d v3.0 in
    let v5 = o.lower y (m a b) c v4.0 in
    let v6 = o.lower y a b v5.0 in
    o.equal x y
    (o.meet x _ g (o.meet x _ f (o.meet x _ e (o.meet x _ d (o.meet x _ c (o.meet x a b ag.0 bf.0) ce.0) dd.0) ce.1) bf.1) ag.1)
    (o.meet y _ _ (o.meet y _ _ (o.meet y _ _ (o.meet y a g v6.0 v1.1) (o.meet y b f v6.1 v2.1)) (o.meet y c e v5.1 v3.1)) (o.meet y d d v4.1 v4.1))

pub least_in_pairs : (a b c d e f g : ℤ)
    → int_min (int_min (int_min (int_min a g) (int_min b f)) (int_min c e)) (int_min d d) ≡ int_min (int_min (int_min (int_min (int_min (int_min a b) c) d) e) f) g
least_in_pairs a b c d e f g = in_pairs int_min (λ x y. x ≤ℤ y) order a b c d e f g
  where
    order : IsMeet int_min (λ x y. x ≤ℤ y)
    order = record {
      same = λ x. omega (arith, ints);
      equal = λ x y h k. omega (arith, ints);
      lower = λ x a b h. (omega (arith, ints, clamps), omega (arith, ints, clamps));
      meet = λ x a b h k. omega (arith, ints, clamps);
    }

pub greatest_in_pairs : (a b c d e f g : ℤ)
    → int_max (int_max (int_max (int_max a g) (int_max b f)) (int_max c e)) (int_max d d) ≡ int_max (int_max (int_max (int_max (int_max (int_max a b) c) d) e) f) g
greatest_in_pairs a b c d e f g = in_pairs int_max (λ x y. y ≤ℤ x) order a b c d e f g
  where
    order : IsMeet int_max (λ x y. y ≤ℤ x)
    order = record {
      same = λ x. omega (arith, ints);
      equal = λ x y h k. omega (arith, ints);
      lower = λ x a b h. (omega (arith, ints, clamps), omega (arith, ints, clamps));
      meet = λ x a b h k. omega (arith, ints, clamps);
    }
