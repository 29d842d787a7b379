-- Rows in which an object is given one box.
use Rattle.std.proofs.Common.{◌≡◌, ℕ, ◌+◌, ◌<◌, ◌≤◌, Bool, true, false, cond, eqb, List, length, Option, Some, refl, sym, ap, ◌∙◌, inl, inr, arith}
use Rattle.std.specs.Prelude.{◌==◌, ◌&&◌, nat_le, nat_lt, option_and_then, option_map}
use Rattle.std.specs.Option.{option_or}
use Rattle.std.proofs.lemmas.Bool.{cases_eq, cases_lt}
use Rattle.std.proofs.lemmas.Bool.Decides.{nat_tests}
use Rattle.cj_case.specs.declared.axis_box.AxisBox.{AxisBox}
use Rattle.cj_case.specs.Boxes.{PlainBox, plain_box, plain_rows}
use Rattle.cj_case.specs.Tables.{IsEven, Table, filled, value_at}
use Rattle.cj_case.proofs.TableLemmas.{filled_elsewhere, filled_there}
use Rattle.cj_bezier.proofs.AllBoxLemmas.{seen_at}
use Rattle.cj_blocks.specs.BoxRows.{box_at}
use Rattle.cj_blocks.specs.Listed.{IsFilled}
use Rattle.cj_blocks.proofs.CurrentLemmas.{other_number, same_number}

-- ---- tests of the slots of an object

pub is_of_other : (other object first end slot : ℕ) → (other ≡ object → ⊥) → (other == object && nat_le first slot && nat_lt slot end) ≡ false
is_of_other other object first end slot apart = let none : eqb other object ≡ false = other_number other object apart in rw none refl

pub is_inside : (object first end slot : ℕ) → first ≤ slot → slot < end → (object == object && nat_le first slot && nat_lt slot end) ≡ true
is_inside object first end slot low high = let own : eqb object object ≡ true = same_number object in grind (arith, nat_tests)

pub is_before : (object first end slot : ℕ) → slot < first → (object == object && nat_le first slot && nat_lt slot end) ≡ false
is_before object first end slot low = let own : eqb object object ≡ true = same_number object in grind (arith, nat_tests)

pub is_behind : (object first end slot : ℕ) → end ≤ slot → (object == object && nat_le first slot && nat_lt slot end) ≡ false
is_behind object first end slot high = let own : eqb object object ≡ true = same_number object in grind (arith, nat_tests)

-- ---- an object is given one box

pub is_filled : (t : Table (Option AxisBox)) (object first count : ℕ) (area : AxisBox) → IsEven t → object < length t.rows → first + count ≤ t.slots
    → IsFilled t.slots object first count (Some (plain_box area)) t.rows (filled object first count (Some area) t).rows
is_filled t object first count area even exists within other k lt = elim (cases_eq other object) [
  | inr apart ↦
      as_before (filled_elsewhere object first count (Some area) t other k even exists within (λ same low high. apart same))
      ∙ ap choose (sym (is_of_other other object first (first + count) k apart))
  | inl same ↦ elim (cases_lt k first) [
    | inl early ↦
        as_before (filled_elsewhere object first count (Some area) t other k even exists within (λ is low high. absurd (omega arith)))
        ∙ ap choose (sym (own_test same (is_before object first (first + count) k early)))
    | inr late ↦ elim (cases_lt k (first + count)) [
      | inl inside ↦
          let there : value_at (filled object first count (Some area) t).rows other k ≡ Some (Some area) =
          ap (λ (o : ℕ). value_at (filled object first count (Some area) t).rows o k) same ∙ filled_there object first count (Some area) t k even exists within late inside in
          seen (filled object first count (Some area) t).rows
          ∙ ap (λ (o : Option (Option AxisBox)). box_seen o) there
          ∙ ap choose (sym (own_test same (is_inside object first (first + count) k late inside)))
      | inr behind ↦
          as_before (filled_elsewhere object first count (Some area) t other k even exists within (λ is low high. absurd (omega arith)))
          ∙ ap choose (sym (own_test same (is_behind object first (first + count) k behind)))
    ]
  ]
]
  where
    box_seen : Option (Option AxisBox) → Option PlainBox
    box_seen o = option_and_then (λ b. b) (option_map (option_map plain_box) o)

    seen : (rows : List (List (Option AxisBox))) → box_at (plain_rows rows) other k ≡ box_seen (value_at rows other k)
    seen rows = ap (λ (o : Option (Option PlainBox)). option_and_then (λ b. b) o) (seen_at rows other k)

    choose : Bool → Option PlainBox
    choose b = cond b (option_or (Some (plain_box area)) (box_at (plain_rows t.rows) other k)) (box_at (plain_rows t.rows) other k)

    as_before : value_at (filled object first count (Some area) t).rows other k ≡ value_at t.rows other k → box_at (plain_rows (filled object first count (Some area) t).rows) other k ≡ box_at (plain_rows t.rows) other k
    as_before same = seen (filled object first count (Some area) t).rows ∙ ap (λ (o : Option (Option AxisBox)). box_seen o) same ∙ sym (seen t.rows)

    own_test : {b : Bool} → other ≡ object → (object == object && nat_le first k && nat_lt k (first + count)) ≡ b → (other == object && nat_le first k && nat_lt k (first + count)) ≡ b
    own_test same test = ap (λ (o : ℕ). o == object && nat_le first k && nat_lt k (first + count)) same ∙ test
