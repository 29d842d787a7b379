-- The line of a box, by its six ends, and of a cell.
use Rattle.std.proofs.Common.{◌≡◌, ℕ, ◌-◌, ◌^◌, ◌<◌, ◌≤◌, List, [], ◌∷◌, drop, get_or, take, arith, ap, sym, ◌∙◌, refl, subst, true, false, Bool, ℤ, pos, Option, Some, Result, Ok, Err, length}
use Rattle.std.proofs.Common.{FitsSigned, of_z, to_z, to_z-of_z}
use Rattle.std.specs.Int.{w128}
use Rattle.std.specs.Prelude.{◌&&◌, int_le, int_lt, unsigned_abs}
use Rattle.std.proofs.lemmas.Bool.{and_from, and_left, and_right}
use Rattle.std.proofs.lemmas.Int.{ints}
use Rattle.std.proofs.lemmas.List.{take_all}
use Rattle.cj_base.specs.Ticks.{FIRST_TICK, LAST_TICK}
use Rattle.cj_case.specs.declared.kind.Kind.{Kind}
use Rattle.cj_formats.specs.declared.cert_cause.CertCause.{CertCause}
use Rattle.cj_formats.specs.declared.cert_cause.CertCause.TheVariants as causes
use Rattle.cj_formats.specs.declared.cert_format.CertFormat.{CertFormat}
use Rattle.cj_formats.specs.declared.cert_format.CertFormat.TheVariants.{Full}
use Rattle.cj_formats.specs.declared.cert_version.CertVersion.TheVariants.{One, Two}
use Rattle.cj_formats.specs.Formats.{most_objects_in}
use Rattle.cj_cert.specs.Certificates.{PlainBoxLine}
use Rattle.cj_cert_text.specs.Lines as spec
use Rattle.cj_cert_text.specs.Lines.{Box, Cell, PlainLine, in_range, is_from, is_object, is_reach, is_slot, is_tick, object_of}
use Rattle.cj_cert_text.proofs.LineLemmas.{box_test, from_range, into_range, le_of, the_box}

-- the slots of a box in their order
pub slots_ordered : (first last : ℤ) → is_slot first ≡ true → is_from (unsigned_abs first) (2 ^ 32 - 1) last ≡ true → (is_slot last ≡ true) × (int_le first last ≡ true)
slots_ordered first last low high =
    let f = from_range 0 (2 ^ 32 - 1) first low in
    let l = from_range (unsigned_abs first) (2 ^ 32 - 1) last high in (
      subst (λ z. is_slot z ≡ true) (sym l.value) (into_range 0 (2 ^ 32 - 1) (unsigned_abs last) (omega arith) l.high),
      subst (λ z. int_le z last ≡ true) (sym f.value) (subst (λ z. int_le (pos (unsigned_abs first)) z ≡ true) (sym l.value) (le_of (unsigned_abs first) (unsigned_abs last) l.low)),
    )

-- or not in their order
slots_unordered : (first last : ℤ) → is_slot first ≡ true → is_from (unsigned_abs first) (2 ^ 32 - 1) last ≡ false → (is_slot last && int_le first last) ≡ false
slots_unordered first last low none =
    let f = from_range 0 (2 ^ 32 - 1) first low in
    ap (λ (z : ℤ). is_slot last && int_le z last) f.value ∙ one_fails (int_le (pos 0) last) (int_le (pos (unsigned_abs first)) last) (int_le last (pos (2 ^ 32 - 1))) none
  where
    one_fails : (w x y : Bool) → (x && y) ≡ false → ((w && y) && x) ≡ false
    one_fails w true y none = and_left _ _ (and_right _ _ none)
    one_fails w false y none = and_right _ _ refl

abbrev pub at : List ℤ → ℕ → ℤ
at ns k = get_or ns k (pos 0)

-- a box with six ends
pub six_ends : (v : CertFormat) (i first last : ℤ) (ns : List ℤ) → 6 ≤ length ns → length ns < 7
    → spec.box_of v i first last ns ≡ in_range (box_test v i first last (at ns 0) (at ns 1) (at ns 2) (at ns 3) (at ns 4) (at ns 5))
    (Box (the_box i first last (at ns 0) (at ns 1) (at ns 2) (at ns 3) (at ns 4) (at ns 5)))
six_ends v i first last [] least most = absurd (omega arith)
six_ends v i first last (a ∷ []) least most = absurd (omega arith)
six_ends v i first last (a ∷ b ∷ []) least most = absurd (omega arith)
six_ends v i first last (a ∷ b ∷ c ∷ []) least most = absurd (omega arith)
six_ends v i first last (a ∷ b ∷ c ∷ d ∷ []) least most = absurd (omega arith)
six_ends v i first last (a ∷ b ∷ c ∷ d ∷ e ∷ []) least most = absurd (omega arith)
six_ends v i first last (a ∷ b ∷ c ∷ d ∷ e ∷ f ∷ []) least most = refl
six_ends v i first last (a ∷ b ∷ c ∷ d ∷ e ∷ f ∷ g ∷ ns) least most = absurd (omega arith)

-- fewer or more
pub too_few : (v : CertFormat) (i first last : ℤ) (ns : List ℤ) → length ns < 6 → spec.box_of v i first last ns ≡ Err causes.Form
too_few v i first last [] few = refl
too_few v i first last (a ∷ []) few = refl
too_few v i first last (a ∷ b ∷ []) few = refl
too_few v i first last (a ∷ b ∷ c ∷ []) few = refl
too_few v i first last (a ∷ b ∷ c ∷ d ∷ []) few = refl
too_few v i first last (a ∷ b ∷ c ∷ d ∷ e ∷ []) few = refl
too_few v i first last (a ∷ b ∷ c ∷ d ∷ e ∷ f ∷ ns) few = absurd (omega arith)

pub too_many : (v : CertFormat) (i first last : ℤ) (ns : List ℤ) → 7 ≤ length ns → spec.box_of v i first last ns ≡ Err causes.Form
too_many v i first last [] many = absurd (omega arith)
too_many v i first last (a ∷ []) many = absurd (omega arith)
too_many v i first last (a ∷ b ∷ []) many = absurd (omega arith)
too_many v i first last (a ∷ b ∷ c ∷ []) many = absurd (omega arith)
too_many v i first last (a ∷ b ∷ c ∷ d ∷ []) many = absurd (omega arith)
too_many v i first last (a ∷ b ∷ c ∷ d ∷ e ∷ []) many = absurd (omega arith)
too_many v i first last (a ∷ b ∷ c ∷ d ∷ e ∷ f ∷ []) many = absurd (omega arith)
too_many v i first last (a ∷ b ∷ c ∷ d ∷ e ∷ f ∷ g ∷ ns) many = refl

pub one_slot : (ns : List ℤ) → 2 ≤ length ns → spec.box_1 ns ≡ spec.box_of (Full One) (at ns 0) (at ns 1) (at ns 1) (take (length ns - 2) (drop 2 ns))
one_slot [] least = absurd (omega arith)
one_slot (a ∷ []) least = absurd (omega arith)
one_slot (a ∷ b ∷ ns) least = ap (spec.box_of (Full One) a b b) (sym (take_all (length (a ∷ b ∷ ns) - 2) ns (omega arith)))

pub two_slots : (ns : List ℤ) → 3 ≤ length ns → spec.box_2 ns ≡ spec.box_of (Full Two) (at ns 0) (at ns 1) (at ns 2) (take (length ns - 3) (drop 3 ns))
two_slots [] least = absurd (omega arith)
two_slots (a ∷ []) least = absurd (omega arith)
two_slots (a ∷ b ∷ []) least = absurd (omega arith)
two_slots (a ∷ b ∷ c ∷ ns) least = ap (spec.box_of (Full Two) a b c) (sym (take_all (length (a ∷ b ∷ c ∷ ns) - 3) ns (omega arith)))

-- ---- what the tests of a box decide

-- how far a box reaches on an axis is out of range, or is taken
abbrev pub IsRefused : ℤ → ℤ → CertCause → Type 0
IsRefused least most cause = (is_reach least most ≡ false) × (cause ≡ causes.Range)

abbrev pub IsTaken : ℤ → ℤ → ℤ → ℤ → Type 0
IsTaken least most from to = (is_reach least most ≡ true) × ◌≡◌ {A = ℤ × ℤ} (from, to) (least, most)

abbrev pub ends_at : CertFormat → ℤ → ℤ → ℤ → List ℤ → Bool
ends_at v i first last ns = box_test v i first last (at ns 0) (at ns 1) (at ns 2) (at ns 3) (at ns 4) (at ns 5)

-- the tests in front of the ends
pub record HasSlots (v : CertFormat) (i first last : ℤ) : Type 0 where
  pub object : is_object v i ≡ true
  pub from : is_slot first ≡ true
  pub to : is_from (unsigned_abs first) (2 ^ 32 - 1) last ≡ true

-- a number as it is passed on
abbrev pub passed : ℤ → ℤ
passed z = to_z w128 (of_z w128 z)

-- the same of numbers that are passed on, the first slot as it was taken
pub has_slots : (v : CertFormat) (i first last : ℤ) (from : ℕ) → FitsSigned w128 i → FitsSigned w128 first → FitsSigned w128 last
    → is_object v (passed i) ≡ true → is_slot (passed first) ≡ true → from ≡ unsigned_abs (passed first)
    → is_from from (2 ^ 32 - 1) (passed last) ≡ true → HasSlots v i first last
has_slots v i first last from p q r object slot taken order = record {
  object = rw (to_z-of_z p) at object;
  from = rw (to_z-of_z q) at slot;
  to = rw (taken, to_z-of_z q, to_z-of_z r) at order;
}

pub object_refused : (v : CertFormat) (i first last : ℤ) (ns : List ℤ) → 6 ≤ length ns → length ns < 7 → is_object v i ≡ false → spec.box_of v i first last ns ≡ Err causes.Range
object_refused v i first last ns least most object =
    let test : ends_at v i first last ns ≡ false = rw object refl in
    six_ends v i first last ns least most ∙ ap (λ (b : Bool). in_range b (Box (the_box i first last (at ns 0) (at ns 1) (at ns 2) (at ns 3) (at ns 4) (at ns 5)))) test

pub from_refused : (v : CertFormat) (i first last : ℤ) (ns : List ℤ) → 6 ≤ length ns → length ns < 7 → is_object v i ≡ true → is_slot first ≡ false → spec.box_of v i first last ns ≡ Err causes.Range
from_refused v i first last ns least most object from =
    let test : ends_at v i first last ns ≡ false = rw (object, from) refl in
    six_ends v i first last ns least most ∙ ap (λ (b : Bool). in_range b (Box (the_box i first last (at ns 0) (at ns 1) (at ns 2) (at ns 3) (at ns 4) (at ns 5)))) test

pub to_refused : (v : CertFormat) (i first last : ℤ) (ns : List ℤ) → 6 ≤ length ns → length ns < 7 → is_object v i ≡ true → is_slot first ≡ true → is_from (unsigned_abs first) (2 ^ 32 - 1) last ≡ false
    → spec.box_of v i first last ns ≡ Err causes.Range
to_refused v i first last ns least most object from to =
    let none = slots_unordered first last from to in
    let x = is_reach (at ns 0) (at ns 1) in
    let y = is_reach (at ns 2) (at ns 3) in
    let z = is_reach (at ns 4) (at ns 5) in
    let test : ends_at v i first last ns ≡ false =
    (λ j. (((((object j && from j) && is_slot last) && int_le first last) && x) && y) && z) ∙ (λ j. ((none j && x) && y) && z) in
    six_ends v i first last ns least most ∙ ap (λ (b : Bool). in_range b (Box (the_box i first last (at ns 0) (at ns 1) (at ns 2) (at ns 3) (at ns 4) (at ns 5)))) test

pub x_refused : (v : CertFormat) (i first last : ℤ) (ns : List ℤ) → 6 ≤ length ns → length ns < 7 → HasSlots v i first last → is_reach (at ns 0) (at ns 1) ≡ false → spec.box_of v i first last ns ≡ Err causes.Range
x_refused v i first last ns least most slots x =
    let ordered = slots_ordered first last slots.from slots.to in
    let test : ends_at v i first last ns ≡ false = rw (slots.object, slots.from, ordered.0, ordered.1, x) refl in
    six_ends v i first last ns least most ∙ ap (λ (b : Bool). in_range b (Box (the_box i first last (at ns 0) (at ns 1) (at ns 2) (at ns 3) (at ns 4) (at ns 5)))) test

pub y_refused : (v : CertFormat) (i first last : ℤ) (ns : List ℤ) → 6 ≤ length ns → length ns < 7 → HasSlots v i first last → is_reach (at ns 0) (at ns 1) ≡ true → is_reach (at ns 2) (at ns 3) ≡ false
    → spec.box_of v i first last ns ≡ Err causes.Range
y_refused v i first last ns least most slots x y =
    let ordered = slots_ordered first last slots.from slots.to in
    let test : ends_at v i first last ns ≡ false = rw (slots.object, slots.from, ordered.0, ordered.1, x, y) refl in
    six_ends v i first last ns least most ∙ ap (λ (b : Bool). in_range b (Box (the_box i first last (at ns 0) (at ns 1) (at ns 2) (at ns 3) (at ns 4) (at ns 5)))) test

pub z_refused : (v : CertFormat) (i first last : ℤ) (ns : List ℤ) → 6 ≤ length ns → length ns < 7 → HasSlots v i first last → is_reach (at ns 0) (at ns 1) ≡ true → is_reach (at ns 2) (at ns 3) ≡ true
    → is_reach (at ns 4) (at ns 5) ≡ false
    → spec.box_of v i first last ns ≡ Err causes.Range
z_refused v i first last ns least most slots x y z =
    let ordered = slots_ordered first last slots.from slots.to in
    let test : ends_at v i first last ns ≡ false = rw (slots.object, slots.from, ordered.0, ordered.1, x, y, z) refl in
    six_ends v i first last ns least most ∙ ap (λ (b : Bool). in_range b (Box (the_box i first last (at ns 0) (at ns 1) (at ns 2) (at ns 3) (at ns 4) (at ns 5)))) test

pub box_taken : (v : CertFormat) (i first last : ℤ) (ns : List ℤ) → 6 ≤ length ns → length ns < 7 → HasSlots v i first last → is_reach (at ns 0) (at ns 1) ≡ true → is_reach (at ns 2) (at ns 3) ≡ true
    → is_reach (at ns 4) (at ns 5) ≡ true
    → spec.box_of v i first last ns ≡ Ok (Box (the_box i first last (at ns 0) (at ns 1) (at ns 2) (at ns 3) (at ns 4) (at ns 5)))
box_taken v i first last ns least most slots x y z =
    let ordered = slots_ordered first last slots.from slots.to in
    let test : ends_at v i first last ns ≡ true = rw (slots.object, slots.from, ordered.0, ordered.1, x, y, z) refl in
    six_ends v i first last ns least most ∙ ap (λ (b : Bool). in_range b (Box (the_box i first last (at ns 0) (at ns 1) (at ns 2) (at ns 3) (at ns 4) (at ns 5)))) test

abbrev box_from : ℕ → ℕ → ℕ → ℤ → ℤ → ℤ → ℤ → ℤ → ℤ → PlainBoxLine
box_from o f l a b c d e g = record { object = o; first = f; last = l; area = record { x = record { least = a; most = b }; y = record { least = c; most = d }; z = record { least = e; most = g } } }

-- boxes of the same numbers
pub same_box : (o o' f f' l l' : ℕ) (a a' b b' c c' d d' e e' g g' : ℤ) → o ≡ o' → f ≡ f' → l ≡ l' → a ≡ a' → b ≡ b' → c ≡ c' → d ≡ d' → e ≡ e' → g ≡ g'
    → box_from o f l a b c d e g ≡ box_from o' f' l' a' b' c' d' e' g'
same_box o o' f f' l l' a a' b b' c c' d d' e e' g g' eo ef el ea eb ec ed ee eg = λ i. box_from (eo i) (ef i) (el i) (ea i) (eb i) (ec i) (ed i) (ee i) (eg i)

pub as_cause : (x : Result PlainLine CertCause) (cause : CertCause) → x ≡ Err causes.Range → cause ≡ causes.Range → x ≡ Err cause
as_cause x cause refused same = refused ∙ ap (λ (k : CertCause). Err k) (sym same)

-- ---- cells

pub four_numbers : (v : CertFormat) (ns : List ℤ) (kind : Option Kind) → 4 ≤ length ns → length ns < 5 → spec.cell v ns kind ≡ spec.cell_of v (at ns 0) (at ns 1) (at ns 2) (at ns 3) kind
four_numbers v [] kind least most = absurd (omega arith)
four_numbers v (a ∷ []) kind least most = absurd (omega arith)
four_numbers v (a ∷ b ∷ []) kind least most = absurd (omega arith)
four_numbers v (a ∷ b ∷ c ∷ []) kind least most = absurd (omega arith)
four_numbers v (a ∷ b ∷ c ∷ d ∷ []) kind least most = refl
four_numbers v (a ∷ b ∷ c ∷ d ∷ e ∷ ns) kind least most = absurd (omega arith)

abbrev cell_test : CertFormat → ℤ → ℤ → ℤ → ℤ → Bool
cell_test v a b first last = is_object v a && is_object v b && int_lt a b && is_tick first && is_tick last && int_le first last

abbrev the_cell : ℤ → ℤ → ℤ → ℤ → Kind → PlainLine
the_cell a b first last kind = Cell (record { a = object_of a; b = object_of b; first = unsigned_abs first; last = unsigned_abs last; kind = kind })

refused_by : (v : CertFormat) (a b first last : ℤ) (kind : Kind) → cell_test v a b first last ≡ false → spec.cell_of v a b first last (Some kind) ≡ Err causes.Range
refused_by v a b first last kind test = ap (λ (t : Bool). in_range t (the_cell a b first last kind)) test

pub one_refused : (v : CertFormat) (a b first last : ℤ) (kind : Kind) → is_object v a ≡ false → spec.cell_of v a b first last (Some kind) ≡ Err causes.Range
one_refused v a b first last kind none = refused_by v a b first last kind (and_left _ _ (and_left _ _ (and_left _ _ (and_left _ _ (and_left _ _ none)))))

pub other_refused : (v : CertFormat) (a b first last : ℤ) (kind : Kind) → is_object v b ≡ false → spec.cell_of v a b first last (Some kind) ≡ Err causes.Range
other_refused v a b first last kind none = refused_by v a b first last kind (and_left _ _ (and_left _ _ (and_left _ _ (and_left _ _ (and_right _ _ none)))))

pub first_refused : (v : CertFormat) (a b first last : ℤ) (kind : Kind) → is_tick first ≡ false → spec.cell_of v a b first last (Some kind) ≡ Err causes.Range
first_refused v a b first last kind none = refused_by v a b first last kind (and_left _ _ (and_left _ _ (and_right _ _ none)))

pub last_refused : (v : CertFormat) (a b first last : ℤ) (kind : Kind) → is_tick last ≡ false → spec.cell_of v a b first last (Some kind) ≡ Err causes.Range
last_refused v a b first last kind none = refused_by v a b first last kind (and_left _ _ (and_right _ _ none))

-- the objects and ticks of a cell are there
pub record HasCell (v : CertFormat) (a b first last : ℤ) : Type 0 where
  pub one : is_object v a ≡ true
  pub other : is_object v b ≡ true
  pub from : is_tick first ≡ true
  pub to : is_tick last ≡ true

-- the same, where each number was read from its bits
pub has_cell : (v : CertFormat) (a b first last : ℤ) → FitsSigned w128 a → FitsSigned w128 b → FitsSigned w128 first → FitsSigned w128 last
    → is_object v (to_z w128 (of_z w128 a)) ≡ true → is_object v (to_z w128 (of_z w128 b)) ≡ true
    → is_tick (to_z w128 (of_z w128 first)) ≡ true → is_tick (to_z w128 (of_z w128 last)) ≡ true → HasCell v a b first last
has_cell v a b first last fa fb ff fl one other from to = record {
  one = rw (to_z-of_z fa) at one;
  other = rw (to_z-of_z fb) at other;
  from = rw (to_z-of_z ff) at from;
  to = rw (to_z-of_z fl) at to;
}

less_not : (m n : ℕ) → n ≤ m → int_lt (pos m) (pos n) ≡ false
less_not m n h = grind (arith, ints)

less_is : (m n : ℕ) → m < n → int_lt (pos m) (pos n) ≡ true
less_is m n h = grind (arith, ints)

most_not : (m n : ℕ) → n < m → int_le (pos m) (pos n) ≡ false
most_not m n h = grind (arith, ints)

pub objects_refused : (v : CertFormat) (a b first last : ℤ) (kind : Kind) → HasCell v a b first last → object_of b ≤ object_of a → spec.cell_of v a b first last (Some kind) ≡ Err causes.Range
objects_refused v a b first last kind has order =
    let x = from_range 1 (most_objects_in v) a has.one in
    let y = from_range 1 (most_objects_in v) b has.other in
    let less : int_lt a b ≡ false = ap (λ (z : ℤ). int_lt z b) x.value ∙ ap (int_lt (pos (unsigned_abs a))) y.value ∙ less_not (unsigned_abs a) (unsigned_abs b) (omega (arith, x.low, y.low)) in
    refused_by v a b first last kind (and_left _ _ (and_left _ _ (and_left _ _ (and_right _ _ less))))

pub ticks_refused : (v : CertFormat) (a b first last : ℤ) (kind : Kind) → HasCell v a b first last → unsigned_abs last < unsigned_abs first → spec.cell_of v a b first last (Some kind) ≡ Err causes.Range
ticks_refused v a b first last kind has order =
    let x = from_range FIRST_TICK LAST_TICK first has.from in
    let y = from_range FIRST_TICK LAST_TICK last has.to in
    let none : int_le first last ≡ false = ap (λ (z : ℤ). int_le z last) x.value ∙ ap (int_le (pos (unsigned_abs first))) y.value ∙ most_not (unsigned_abs first) (unsigned_abs last) order in
    refused_by v a b first last kind (and_right _ _ none)

pub cell_taken : (v : CertFormat) (a b first last : ℤ) (kind : Kind) → HasCell v a b first last → object_of a < object_of b → unsigned_abs first ≤ unsigned_abs last
    → spec.cell_of v a b first last (Some kind) ≡ Ok (the_cell a b first last kind)
cell_taken v a b first last kind has objects ticks =
    let xa = from_range 1 (most_objects_in v) a has.one in
    let xb = from_range 1 (most_objects_in v) b has.other in
    let xf = from_range FIRST_TICK LAST_TICK first has.from in
    let xl = from_range FIRST_TICK LAST_TICK last has.to in
    let less : int_lt a b ≡ true = ap (λ (z : ℤ). int_lt z b) xa.value ∙ ap (int_lt (pos (unsigned_abs a))) xb.value ∙ less_is (unsigned_abs a) (unsigned_abs b) (omega (arith, xa.low, xb.low)) in
    let ordered : int_le first last ≡ true = ap (λ (z : ℤ). int_le z last) xf.value ∙ ap (int_le (pos (unsigned_abs first))) xl.value ∙ le_of (unsigned_abs first) (unsigned_abs last) ticks in
    let test : cell_test v a b first last ≡ true = and_from _ _ (and_from _ _ (and_from _ _ (and_from _ _ (and_from _ _ has.one has.other) less) has.from) has.to) ordered in
    ap (λ (t : Bool). in_range t (the_cell a b first last kind)) test

-- cells of the same numbers
pub same_cell : (a a' b b' f f' l l' : ℕ) (kind : Kind) → a ≡ a' → b ≡ b' → f ≡ f' → l ≡ l'
    → Cell (record { a = a; b = b; first = f; last = l; kind = kind }) ≡ Cell (record { a = a'; b = b'; first = f'; last = l'; kind = kind })
same_cell a a' b b' f f' l l' kind ea eb ef el = λ i. Cell (record { a = ea i; b = eb i; first = ef i; last = el i; kind = kind })
