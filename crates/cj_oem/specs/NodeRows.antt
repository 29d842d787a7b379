-- The row of a node.
use Rattle.std.specs.Prelude.{ℕ, ◌+◌, Bool, true, false, ◌||◌, not, ◌==◌, nat_lt, nat_le, if◌then◌else◌, List, [], length, drop, slice_index_or, Option, Some, None, Result, Ok, Err, ℤ, unsigned_abs}
use Rattle.std.specs.List.{list_all}
use Rattle.cj_kvn.specs.Fields.{fields}
use Rattle.cj_base.specs.Numbers.{Number}
use Rattle.cj_kvn.specs.Numbers.{scaled_of}
use Rattle.cj_kvn.specs.Decimals.{decimal_of}
use Rattle.cj_kvn.specs.declared.numbers.NumFault.{NumFault}
use Rattle.cj_kvn.specs.declared.numbers.NumFault.TheVariants.{NotNumber, TooLarge}
use Rattle.cj_base.specs.LeapSeconds.{leap_lies_between}
use Rattle.cj_track.specs.declared.vec3.Vec3.{Vec3}
use Rattle.cj_formats.specs.declared.oem_cause.OemCause.{OemCause}
use Rattle.cj_formats.specs.declared.oem_cause.OemCause.TheVariants as causes
use Rattle.cj_oem.specs.declared.figures.Figures.{Figures}
use Rattle.cj_track.specs.Limits.{MAX_COORDINATE, MAX_RATE, MAX_STEP}
use Rattle.cj_track.specs.PlainTracks.{PlainNode}
use Rattle.cj_kvn.specs.Faults.{◌>>=◌}
use Rattle.cj_oem.specs.Metadata.{unless, parse_epoch}

-- a number in units of 10 ^ -12; none where it is past every range
abbrev pub figure_or : Result ℤ NumFault → Result (Option ℤ) OemCause
figure_or (Ok z) = Ok (Some z)
figure_or (Err TooLarge) = Ok None
figure_or (Err NotNumber) = Err causes.Number

abbrev pub parse_figure : List ℕ → Result (Option ℤ) OemCause
parse_figure text = figure_or (scaled_of 12 text)

-- a number that is at most so large in size
abbrev pub within_or : ℕ → OemCause → Option ℤ → Result ℤ OemCause
within_or limit cause None = Err cause
within_or limit cause (Some z) = if nat_le (unsigned_abs z) limit then Ok z else Err cause

-- three of them
abbrev pub vector_within : ℕ → OemCause → Option ℤ → Option ℤ → Option ℤ → Result Vec3 OemCause
vector_within limit cause a b c = do
  x ← within_or limit cause a
  y ← within_or limit cause b
  z ← within_or limit cause c
  Ok (record { x = x; y = y; z = z })

abbrev pub is_decimal_read : Result Number NumFault → Bool
is_decimal_read (Ok n) = true
is_decimal_read (Err e) = false

abbrev pub is_decimal : List ℕ → Bool
is_decimal text = is_decimal_read (decimal_of text)

-- the field with this index
abbrev pub field_in : List (List ℕ) → ℕ → List ℕ
field_in row i = slice_index_or row i []

-- the numbers of three fields, from this one on
unfoldable pub figures_in : List (List ℕ) → ℕ → Result Figures OemCause
figures_in row first = do
  x ← parse_figure (field_in row first)
  y ← parse_figure (field_in row (first + 1))
  z ← parse_figure (field_in row (first + 2))
  Ok (record { x = x; y = y; z = z })

-- the node that a row of seven fields says, or one of ten with accelerations
unfoldable pub state_said : List (List ℕ) → Result PlainNode OemCause
state_said row = do
  _ ← unless (not ((length row == 7) || (length row == 10))) causes.Fields
  at ← parse_epoch (field_in row 0)
  p ← figures_in row 1
  v ← figures_in row 4
  _ ← unless (not (list_all is_decimal (drop 7 row))) causes.Number
  place ← vector_within MAX_COORDINATE causes.CoordinateRange p.x p.y p.z
  rate ← vector_within MAX_RATE causes.RateRange v.x v.y v.z
  Ok (record { at = at; p = place; v = rate })

-- the node may follow the one before
abbrev pub following : Option PlainNode → PlainNode → Result PlainNode OemCause
following None s = Ok s
following (Some before) s = do
  _ ← unless (nat_le s.at before.at) causes.TimesFall
  _ ← unless (nat_lt (before.at + MAX_STEP) s.at) causes.StepTooLong
  _ ← unless (leap_lies_between before.at s.at) causes.LeapSecond
  Ok s

-- the node of a row that follows the node before
unfoldable pub state_of_fields : Option PlainNode → List (List ℕ) → Result PlainNode OemCause
state_of_fields before row = do
  state ← state_said row
  following before state

abbrev pub state_of_row : Option PlainNode → List ℕ → Result PlainNode OemCause
state_of_row before text = state_of_fields before (fields text)
