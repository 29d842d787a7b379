-- Digits and powers of ten.
use Rattle.std.proofs.Common.{◌≡◌, ℕ, ◌+◌, ◌*◌, ◌-◌, ◌^◌, ◌<◌, List, length, take, drop, min, true, false, Bool, cond, Result, Ok, Err, inl, inr, sym, subst, ap, ◌∙◌, arith, refl}
use Rattle.std.specs.Prelude.{IsTrue, ◌&&◌, ◌==◌}
use Rattle.std.specs.List.{list_all}
use Rattle.std.specs.Str.Parse.{digits_value}
use Rattle.std.proofs.lemmas.Bool.{cases_order}
use Rattle.std.proofs.lemmas.List.{take_all, drop_all}
use Rattle.std.proofs.lemmas.Nat.{pow-add}
use Rattle.std.proofs.Math.Nat.{mul-lt-mul_of_pos_right, one-le-pow}
use Rattle.cj_epoch.specs.Reading.{micros_of}
use Rattle.cj_epoch.specs.declared.fault.EpochFault.{EpochFault}
use Rattle.cj_epoch.specs.declared.fault.EpochFault.TheVariants.{TooFine}

pub and_is : (a b : Bool) → IsTrue (a && b) → IsTrue a × IsTrue b
and_is true b h = (refl, h)
and_is false b h = absurd cc

pub both : (a b : Bool) → IsTrue a → IsTrue b → IsTrue (a && b)
both true b h k = k
both false b h k = absurd cc

-- a number of few digits has room for more
pub room_for : (n d p most : ℕ) → n < 10 ^ d → d + p ≡ most → n * 10 ^ p < 10 ^ most
room_for n d p most small room =
    let total : 10 ^ most ≡ 10 ^ d * 10 ^ p = ap (λ (k : ℕ). 10 ^ k) (sym room) ∙ pow-add 10 d p in
    omega (arith, total, mul-lt-mul_of_pos_right {k = 10 ^ p} small (one-le-pow p 10 (omega arith)))

-- at most six of the digits, and the others
pub at_most_six : (ds : List ℕ) (n : ℕ) → n ≡ min (length ds) 6 → (take n ds ≡ take 6 ds) × (drop n ds ≡ drop 6 ds) × (6 - n ≡ 6 - length ds)
at_most_six ds n e = elim (cases_order (length ds) 6) [
  | inr (inl lt) ↦ (take_all n ds (omega arith) ∙ sym (take_all 6 ds (omega arith)), drop_all n ds (omega arith) ∙ sym (drop_all 6 ds (omega arith)), omega arith)
  | inl same ↦ let six : n ≡ 6 = omega arith in (ap (λ (k : ℕ). take k ds) six, ap (λ (k : ℕ). drop k ds) six, omega arith)
  | inr (inr gt) ↦ let six : n ≡ 6 = omega arith in (ap (λ (k : ℕ). take k ds) six, ap (λ (k : ℕ). drop k ds) six, omega arith)
]

abbrev pub okay : ℕ → Result ℕ EpochFault
okay n = Ok n

chosen : (b : Bool) (m n : ℕ) → b ≡ true → m ≡ n → okay m ≡ cond b (Ok n) (Err TooFine)
chosen true m n h e = ap okay e
chosen false m n h e = absurd cc

-- the digits past the sixth are zeros
pub micros_is : (ds : List ℕ) (n v m : ℕ) → n ≡ min (length ds) 6 → list_all (λ (d : ℕ). d == 48) (drop n ds) ≡ true → v ≡ digits_value 10 (take n ds) → m ≡ v * 10 ^ (6 - n) → okay m ≡ micros_of ds
micros_is ds n v m least zeros value scaled =
    let six = at_most_six ds n least in
    let value_six : v ≡ digits_value 10 (take 6 ds) = value ∙ ap (digits_value 10) six.0 in
    chosen (list_all (λ (d : ℕ). d == 48) (drop 6 ds)) m (digits_value 10 (take 6 ds) * 10 ^ (6 - length ds))
    (subst (λ (rest : List ℕ). list_all (λ (d : ℕ). d == 48) rest ≡ true) six.1 zeros)
    (scaled ∙ ap (λ (k : ℕ). k * 10 ^ (6 - n)) value_six ∙ ap (λ (k : ℕ). digits_value 10 (take 6 ds) * 10 ^ k) six.2)
