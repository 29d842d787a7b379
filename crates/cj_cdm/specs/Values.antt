-- What the values of a message's lines say.
use Rattle.std.specs.Prelude.{ℕ, ◌-◌, ◌%◌, ◌^◌, Bool, ◌&&◌, ◌||◌, not, ◌==◌, nat_eq, nat_le, nat_lt, if◌then◌else◌, List, ◌++◌, length, take, drop, codes, Option, Some, None, option_map, option_and_then, ℤ, pos, negsuc, neg_ℤ, int_le, int_lt, unsigned_abs}
use Rattle.std.specs.Cmp.Lexicographic.{pointwise}
use Rattle.std.specs.List.{before_first, after_first}
use Rattle.std.specs.Result.{result_ok}
use Rattle.cj_epoch.specs.Reading.{reading_of}
use Rattle.cj_base.specs.Ticks.{FIRST_TICK, LAST_TICK}
use Rattle.cj_epoch.specs.Written.{epoch_of}
use Rattle.cj_base.specs.Numbers.{Number}
use Rattle.cj_kvn.specs.Numbers.{scaled_of}
use Rattle.cj_base.specs.Decimals.{shifted}
use Rattle.cj_kvn.specs.Decimals.{decimal_of, decimal_text_of}
use Rattle.cj_kvn.specs.Originators.{is_originator}
use Rattle.cj_track.specs.Labels.{is_label}
use Rattle.cj_track.specs.declared.frame.Frame.{Frame}
use Rattle.cj_track.specs.declared.frame.Frame.TheVariants as frames
use Rattle.cj_cdm.specs.Designators.{is_designator}
use Rattle.cj_cdm.specs.Texts.{fixed_text, number_text}

abbrev pub same : List ℕ → List ℕ → Bool
same = pointwise nat_eq

abbrev pub only_if : {A : Type 0} → Bool → A → Option A
only_if b x = if b then Some x else None

-- what is there, where it passes a test
abbrev pub kept : {A : Type 0} → (A → Bool) → Option A → Option A
kept test None = None
kept test (Some x) = only_if (test x) x

-- what a text is read as, where it is also how that is written
abbrev pub as_written : {A : Type 0} → (A → List ℕ) → List ℕ → Option A → Option A
as_written write text read = kept (λ x. same text (write x)) read

-- this text and no other
abbrev pub constant_said : List ℕ → List ℕ → Option Unit
constant_said expected text = only_if (same text expected) tt

-- a name: one or more printable bytes, with no space at the ends
abbrev pub label_said : List ℕ → Option (List ℕ)
label_said text = only_if (is_label text) text

-- an international designator, or UNKNOWN where there is none
abbrev pub is_international : List ℕ → Bool
is_international text = same text (codes "UNKNOWN") || is_designator text

abbrev pub designator_said : List ℕ → Option (List ℕ)
designator_said text = only_if (is_international text) text

abbrev pub frame_said : List ℕ → Option Frame
frame_said text =
    if same text (codes "EME2000") then Some frames.Eme2000
    else if same text (codes "GCRF") then Some frames.Gcrf
    else None

-- who made a message
abbrev pub originator_said : List ℕ → Option (List ℕ)
originator_said text = only_if (is_originator text) text

-- a tick, in the one form in which it is written
abbrev pub is_tick : ℕ → Bool
is_tick m = nat_le FIRST_TICK m && nat_le m LAST_TICK

unfoldable pub epoch_said : List ℕ → Option ℕ
epoch_said text = as_written epoch_of text (kept is_tick (result_ok (reading_of text)))

-- a whole number that is not negative
abbrev pub natural : ℤ → Option ℕ
natural (pos n) = Some n
natural (negsuc n) = None

-- the number of a message, behind its originator
abbrev pub is_number : ℕ → Bool
is_number n = nat_le 1 n && nat_lt n (2 ^ 32)

unfoldable pub number_said : List ℕ → Option ℕ
number_said text = as_written number_text text (kept is_number (option_and_then natural (result_ok (scaled_of 0 text))))

-- what stands behind this front
abbrev pub behind_front : List ℕ → List ℕ → Option (List ℕ)
behind_front front text = only_if (same (take (length front) text) front) (drop (length front) text)

-- what stands before this ending
abbrev pub before_ending : List ℕ → List ℕ → Option (List ℕ)
before_ending ending text = only_if (same (drop (length text - length ending) text) ending) (take (length text - length ending) text)

abbrev pub id_said : List ℕ → List ℕ → Option ℕ
id_said originator text = option_and_then number_said (behind_front (originator ++ codes "_") text)

-- what stands before this unit
abbrev pub before_unit : List ℕ → List ℕ → Option (List ℕ)
before_unit unit text = before_ending (codes " [" ++ unit ++ codes "]") text

-- a size of at most 36 digits
abbrev pub is_short : ℤ → Bool
is_short z = nat_lt (unsigned_abs z) (10 ^ 36)

-- a number with so many decimals, in units of the last
unfoldable pub fixed_said : ℕ → List ℕ → Option ℤ
fixed_said places text = as_written (λ z. fixed_text places z) text (kept is_short (result_ok (scaled_of places text)))

-- a miss distance in nm, from metres
abbrev pub is_miss : ℕ → Bool
is_miss n = nat_lt n (2 ^ 64)

abbrev pub miss_said : List ℕ → Option ℕ
miss_said text = option_and_then (λ t. kept is_miss (option_and_then natural (fixed_said 9 t))) (before_unit (codes "m") text)

-- a value along an axis: a number of 64 bits with a sign
abbrev pub is_axis_value : ℤ → Bool
is_axis_value z = int_le (neg_ℤ (pos (2 ^ 63))) z && int_lt z (pos (2 ^ 63))

-- in nm from metres, or in nm/s from metres per second
abbrev pub axis_value_said : List ℕ → List ℕ → Option ℤ
axis_value_said unit text = option_and_then (λ t. kept is_axis_value (fixed_said 9 t)) (before_unit unit text)

-- a coordinate in nm, from km, or a rate in nm/s, from km/s
abbrev pub kilometres_said : List ℕ → List ℕ → Option ℤ
kilometres_said unit text = option_and_then (λ t. fixed_said 12 t) (before_unit unit text)

-- E
abbrev pub is_mark : ℕ → Bool
is_mark b = b == 69

-- the power of ten of at most three digits that stands behind it
abbrev pub is_power : ℤ → Bool
is_power z = nat_lt (unsigned_abs z) 1000

abbrev pub is_zero : Number → Bool
is_zero n = (n.digits == 0) && not n.negative && (unsigned_abs n.power == 0)

-- a number of at most 18 digits with no zero digit at its end, or zero, and a power of ten from -200 to 200
unfoldable pub is_decimal : Number → Bool
is_decimal n = nat_lt n.digits (10 ^ 18) && (not (n.digits % 10 == 0) || is_zero n) && nat_le (unsigned_abs n.power) 200

-- a number in scientific notation: what stands before the E, times the power of ten that stands behind it
abbrev pub scientific : List ℕ → Option Number
scientific text =
    option_and_then (λ significand. option_map (λ power. shifted significand power) (kept is_power (result_ok (scaled_of 0 (after_first is_mark text)))))
    (result_ok (decimal_of (before_first is_mark text)))

-- an element of a covariance, in the one form in which it is written
unfoldable pub decimal_said : List ℕ → Option Number
decimal_said text = as_written decimal_text_of text (kept is_decimal (scientific text))

abbrev pub element_said : List ℕ → List ℕ → Option Number
element_said unit text = option_and_then decimal_said (before_unit unit text)
