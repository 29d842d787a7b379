-- The messages that are made fit, where the names from outside do.
use Rattle.std.proofs.Common.{◌≡◌, ℕ, suc, ◌%◌, ◌^◌, ◌<◌, ◌≤◌, Bool, true, false, List, [], ◌∷◌, map, ap, ◌∙◌, refl, inl, inr, arith, Option, Some, pos, ◌+ℤ◌}
use Rattle.std.specs.Prelude.{◌||◌, ◌==◌, nat_le, nat_lt, if◌then◌else◌, unsigned_abs, codes, All}
use Rattle.std.specs.List.{list_all}
use Rattle.std.proofs.lemmas.Bool.Decides.{leb_tells, nat_tests}
use Rattle.std.proofs.lemmas.Int.{ints}
use Rattle.std.proofs.lemmas.List.{length-map}
use Rattle.cj_base.specs.declared.tick.Tick.{Tick}
use Rattle.cj_base.specs.Decimals.{IsReadable, number_of}
use Rattle.cj_kvn.specs.Decimals.{zero_number}
use Rattle.cj_base.specs.Numbers.{Number}
use Rattle.cj_base.specs.declared.decimals.Decimal.{Decimal}
use Rattle.cj_kvn.proofs.AgainLemmas.{zero_is}
use Rattle.cj_kvn.proofs.ReadableLemmas.{exponent_bounds}
use Rattle.cj_track.specs.Labels.{is_label}
use Rattle.cj_cdm.specs.declared.fields.MessageFields.{MessageFields}
use Rattle.cj_cdm.specs.declared.fields.SideFields.{SideFields}
use Rattle.cj_cdm.specs.Building.{in_square_metres}
use Rattle.cj_cdm.specs.Designators.{designator_of, is_designator}
use Rattle.cj_cdm.specs.Fields.{AreShort, message_of_fields, side_of_fields}
use Rattle.cj_cdm.specs.Fits.{Fits, HasNames, IsSide}
use Rattle.cj_cdm.specs.Messages.{PlainMessage}
use Rattle.cj_cdm.specs.Values.{is_decimal, is_international, is_miss, is_tick, same}

tick_is : (t : Tick) → is_tick t.micros ≡ true
tick_is t = let low = t.in_range.0 in let high = t.in_range.1 in grind (arith, nat_tests)

or_true : (a b : Bool) → b ≡ true → (a || b) ≡ true
or_true true b h = refl
or_true false b h = h

designator_by : (id : List ℕ) (b : Bool) → is_designator id ≡ b → is_international (if b then id else codes "UNKNOWN") ≡ true
designator_by id true e = or_true (same id (codes "UNKNOWN")) (is_designator id) e
designator_by id false e = refl

designator_is : (id : List ℕ) → is_international (designator_of id) ≡ true
unfolding designator_of
designator_is id = designator_by id (is_designator id) refl

-- ---- elements
decimal_by : (n : Number) → n.digits < 10 ^ 18 → 0 < n.digits % 10 → unsigned_abs n.power ≤ 200 → is_decimal n ≡ true
unfolding is_decimal
decimal_by n short digit power =
    let least : nat_lt n.digits (10 ^ 18) ≡ true = grind (arith, nat_tests) in
    let last : (n.digits % 10 == 0) ≡ false = grind (arith, nat_tests) in
    let near : nat_le (unsigned_abs n.power) 200 ≡ true = grind (arith, nat_tests) in
    rw (least, last, near) refl

zero_decimal : is_decimal zero_number ≡ true
unfolding is_decimal
zero_decimal = refl

some_element : (d : Decimal) → 0 < d.digits → IsReadable (number_of d) → is_decimal (in_square_metres (number_of d)) ≡ true
some_element d some readable =
    let bounds = exponent_bounds d readable in
    let not_zero : (d.digits == 0) ≡ false = grind (arith, nat_tests) in
    let digit : 0 < d.digits % 10 = elim (leb_tells 1 (d.digits % 10)) [
      | inl h ↦ h.1
      | inr h ↦ absurd (omega (arith, some, (d.normal (let e : d.digits % 10 ≡ 0 = omega (arith, h.1) in e)).1))
    ] in
    rw not_zero (decimal_by (record { negative = d.negative; digits = d.digits; power = d.exponent +ℤ pos 6 }) d.short digit (omega (arith, ints, bounds)))

no_element : (d : Decimal) → d.digits ≡ 0 → is_decimal (in_square_metres (number_of d)) ≡ true
no_element d none =
    let facts = d.normal (ap (λ (n : ℕ). n % 10) none) in
    let zero : number_of d ≡ zero_number = zero_is (number_of d) facts.0 none facts.2 in
    ap (λ (n : Number). is_decimal (in_square_metres n)) zero ∙ zero_decimal

element_is : (d : Decimal) → IsReadable (number_of d) → is_decimal (in_square_metres (number_of d)) ≡ true
element_is d readable = elim (leb_tells 1 d.digits) [
  | inl h ↦ some_element d h.1 readable
  | inr h ↦ no_element d (omega (arith, h.1))
]

elements_are : (ds : List Decimal) → All (λ d. IsReadable (number_of d)) ds → list_all is_decimal (map in_square_metres (map number_of ds)) ≡ true
elements_are [] all = refl
elements_are (d ∷ ds) all =
    rw (element_is d (all 0 d (omega arith)), elements_are ds (λ k x less. all (suc k) x (omega (arith, less)))) refl

-- ---- the whole
pub side_fits : (s : SideFields) → is_label s.track.now.file ≡ true → AreShort s → IsSide (side_of_fields s)
side_fits s from short = record {
  designated = s.track.now.designated;
  named = s.track.now.named;
  international = designator_is s.track.now.id;
  from = from;
  placed = short.0;
  moved = short.1;
  at = tick_is s.matrix.now.at;
  whole = length-map (map number_of s.matrix.now.values) in_square_metres ∙ length-map s.matrix.now.values number_of ∙ s.matrix.now.whole;
  elements = elements_are s.matrix.now.values s.matrix.now.readable;
}

pub message_fits : (f : MessageFields) → f.miss < 2 ^ 64 → HasNames (message_of_fields f) → AreShort f.first → AreShort f.second → Fits (message_of_fields f)
message_fits f missed names short1 short2 =
    let near : is_miss f.miss ≡ true = grind (arith, nat_tests) in
    record {
      stamp_fits = record { made = tick_is f.stamp.created; by = names.by; numbered = names.numbered };
      near = tick_is f.tca;
      missed = near;
      begun = tick_is f.window.first;
      ended = tick_is f.window.last;
      first = side_fits f.first names.first short1;
      second = side_fits f.second names.second short2;
    }

pub some_same : (a b : PlainMessage) (o : Option PlainMessage) → Some a ≡ o → o ≡ Some b → a ≡ b
some_same a b o first second = let both = first ∙ second in cc
