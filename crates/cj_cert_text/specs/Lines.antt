-- What a line of a certificate says, by its own text and by the kind of the line before.
use Rattle.std.specs.Prelude.{ℕ, ◌-◌, ◌^◌, ◌==◌, Bool, true, false, ◌&&◌, if◌then◌else◌, ℤ, pos, neg_ℤ, int_le, int_lt, unsigned_abs, List, [], ◌∷◌, codes, Option, Some, None, Result, Ok, Err}
use Rattle.std.specs.List.{slice_split}
use Rattle.std.specs.Str.{bytes_eq}
use Rattle.cj_base.specs.Ticks.{FIRST_TICK, LAST_TICK}
use Rattle.cj_case.specs.CaseLimits.{MAX_SIZE}
use Rattle.cj_case.specs.declared.kind.Kind.{Kind}
use Rattle.cj_case.specs.declared.kind.Kind.TheVariants as kinds
use Rattle.cj_case.specs.Leaves.{PlainLeaf}
use Rattle.cj_bezier.specs.Shells.{MAX_RADIUS}
use Rattle.cj_cert.specs.declared.cert_lines.ShellLine.{ShellLine}
use Rattle.cj_cert.specs.declared.cert_lines.SizeOfLine.{SizeOfLine}
use Rattle.cj_formats.specs.declared.cert_cause.CertCause.{CertCause}
use Rattle.cj_formats.specs.declared.cert_cause.CertCause.TheVariants as causes
use Rattle.cj_formats.specs.declared.cert_version.CertVersion.TheVariants.{One, Two}
use Rattle.cj_formats.specs.declared.cert_format.CertFormat.{CertFormat}
use Rattle.cj_formats.specs.declared.cert_format.CertFormat.TheVariants.{Full, Brief}
use Rattle.cj_formats.specs.Formats.{most_objects_in, number_of_format}
use Rattle.cj_cert_text.specs.declared.rank.Rank.{Rank}
use Rattle.cj_cert_text.specs.declared.rank.Rank.TheVariants as rank
use Rattle.cj_cert.specs.Certificates.{PlainBoxLine}
use Rattle.cj_cert_text.specs.Numbers.{numbers_in, others_in}
use Rattle.cj_cert_text.specs.Ranks.{rank_of_word, may_follow, has_ended}

-- what a line says
pub data PlainLine : Type 0 where
  Heading : PlainLine
  Window : ℕ → ℕ → PlainLine
  Threshold : ℕ → PlainLine
  Objects : ℕ → PlainLine
  Size : SizeOfLine → PlainLine
  Primary : ℕ → PlainLine
  Shell : ShellLine → PlainLine
  Box : PlainBoxLine → PlainLine
  Cell : PlainLeaf → PlainLine
  End : PlainLine

abbrev pub rank_of : PlainLine → Rank
rank_of Heading = rank.Heading
rank_of (Window first last) = rank.Window
rank_of (Threshold threshold) = rank.Threshold
rank_of (Objects count) = rank.Objects
rank_of (Size size) = rank.Size
rank_of (Primary object) = rank.Primary
rank_of (Shell shell) = rank.Shell
rank_of (Box box) = rank.Box
rank_of (Cell cell) = rank.Cell
rank_of End = rank.End

-- ---- the ranges of numbers

abbrev pub is_from : ℕ → ℕ → ℤ → Bool
is_from least most z = int_le (pos least) z && int_le z (pos most)

-- in nm
abbrev pub MAX_THRESHOLD : ℕ
MAX_THRESHOLD = 10 ^ 16

abbrev pub is_object : CertFormat → ℤ → Bool
is_object format z = is_from 1 (most_objects_in format) z

abbrev pub is_tick : ℤ → Bool
is_tick z = is_from FIRST_TICK LAST_TICK z

abbrev pub is_slot : ℤ → Bool
is_slot z = is_from 0 (2 ^ 32 - 1) z

abbrev pub is_radius : ℤ → Bool
is_radius z = is_from 0 MAX_RADIUS z

abbrev pub is_coordinate : ℤ → Bool
is_coordinate z = int_le (neg_ℤ (pos (2 ^ 63))) z && int_lt z (pos (2 ^ 63))

-- how far a box may reach on an axis
abbrev pub is_reach : ℤ → ℤ → Bool
is_reach least most = is_coordinate least && is_coordinate most && int_le least most

-- the object of a number
abbrev pub object_of : ℤ → ℕ
object_of z = unsigned_abs z - 1

-- ---- the lines of each kind, by the numbers behind the first word and by the words behind these

-- what is said, where the numbers are in their ranges
abbrev pub in_range : Bool → PlainLine → Result PlainLine CertCause
in_range true line = Ok line
in_range false line = Err causes.Range

abbrev pub heading : CertFormat → List ℤ → Result PlainLine CertCause
heading format (z ∷ []) =
    if int_le z (pos (number_of_format format)) && int_le (pos (number_of_format format)) z then Ok Heading else Err causes.Form
heading format numbers = Err causes.Form

abbrev pub window : List ℤ → Result PlainLine CertCause
window (first ∷ last ∷ []) = in_range (is_tick first && is_tick last) (Window (unsigned_abs first) (unsigned_abs last))
window numbers = Err causes.Form

abbrev pub threshold : List ℤ → Result PlainLine CertCause
threshold (z ∷ []) = in_range (is_from 1 MAX_THRESHOLD z) (Threshold (unsigned_abs z))
threshold numbers = Err causes.Form

abbrev pub objects : CertFormat → List ℤ → Result PlainLine CertCause
objects format (z ∷ []) = in_range (is_from 0 (most_objects_in format) z) (Objects (unsigned_abs z))
objects format numbers = Err causes.Form

abbrev pub size_of : CertFormat → List ℤ → Result PlainLine CertCause
size_of format (i ∷ z ∷ []) = in_range (is_object format i && is_from 0 MAX_SIZE z) (Size (record { object = object_of i; size = unsigned_abs z }))
size_of format numbers = Err causes.Form

-- in version 1 no size is told
abbrev pub size : CertFormat → List ℤ → Result PlainLine CertCause
size (Full One) numbers = Err causes.Form
size (Full Two) numbers = size_of (Full Two) numbers
size Brief numbers = size_of Brief numbers

abbrev pub primary_of : List ℤ → Result PlainLine CertCause
primary_of (i ∷ []) = in_range (is_object Brief i) (Primary (object_of i))
primary_of numbers = Err causes.Form

-- primaries are told in brief alone
abbrev pub primary : CertFormat → List ℤ → Result PlainLine CertCause
primary (Full version) numbers = Err causes.Form
primary Brief numbers = primary_of numbers

abbrev pub shell : CertFormat → List ℤ → Result PlainLine CertCause
shell format (i ∷ lo ∷ hi ∷ []) = in_range (is_object format i && is_radius lo && is_radius hi && int_le lo hi)
    (Shell (record { object = object_of i; shell = Some (record { lo = unsigned_abs lo; hi = unsigned_abs hi }) }))
shell format numbers = Err causes.Form

abbrev pub no_shell : CertFormat → List ℤ → List (List ℕ) → Result PlainLine CertCause
no_shell format (i ∷ []) (word ∷ []) =
    if bytes_eq word (codes "NONE") then in_range (is_object format i) (Shell (record { object = object_of i; shell = None })) else Err causes.Form
no_shell format numbers words = Err causes.Form

-- the box of an object from one slot to another
abbrev pub box_of : CertFormat → ℤ → ℤ → ℤ → List ℤ → Result PlainLine CertCause
box_of format i first last (xl ∷ xm ∷ yl ∷ ym ∷ zl ∷ zm ∷ []) =
    in_range (is_object format i && is_slot first && is_slot last && int_le first last && is_reach xl xm && is_reach yl ym && is_reach zl zm)
    (Box (record {
      object = object_of i;
      first = unsigned_abs first;
      last = unsigned_abs last;
      area = record { x = record { least = xl; most = xm }; y = record { least = yl; most = ym }; z = record { least = zl; most = zm } };
    }))
box_of format i first last numbers = Err causes.Form

-- in version 1 a box is of one slot; in brief there is none
abbrev pub box_1 : List ℤ → Result PlainLine CertCause
box_1 (i ∷ slot ∷ ends) = box_of (Full One) i slot slot ends
box_1 numbers = Err causes.Form

abbrev pub box_2 : List ℤ → Result PlainLine CertCause
box_2 (i ∷ first ∷ last ∷ ends) = box_of (Full Two) i first last ends
box_2 numbers = Err causes.Form

abbrev pub box : CertFormat → List ℤ → Result PlainLine CertCause
box (Full One) numbers = box_1 numbers
box (Full Two) numbers = box_2 numbers
box Brief numbers = Err causes.Form

abbrev pub kind_of_word : List ℕ → Option Kind
kind_of_word word =
    if bytes_eq word (codes "F") then Some kinds.Far
    else if bytes_eq word (codes "N") then Some kinds.Near
    else if bytes_eq word (codes "U") then Some kinds.Undecided
    else None

-- the kind that the only word names
abbrev pub kind_of : List (List ℕ) → Option Kind
kind_of [] = None
kind_of (word ∷ []) = kind_of_word word
kind_of (word ∷ next ∷ words) = None

abbrev pub cell_of : CertFormat → ℤ → ℤ → ℤ → ℤ → Option Kind → Result PlainLine CertCause
cell_of format a b first last None = Err causes.Form
cell_of format a b first last (Some kind) =
    in_range (is_object format a && is_object format b && int_lt a b && is_tick first && is_tick last && int_le first last)
    (Cell (record { a = object_of a; b = object_of b; first = unsigned_abs first; last = unsigned_abs last; kind = kind }))

abbrev pub cell : CertFormat → List ℤ → Option Kind → Result PlainLine CertCause
cell format (a ∷ b ∷ first ∷ last ∷ []) kind = cell_of format a b first last kind
cell format numbers kind = Err causes.Form

abbrev pub end : List ℤ → Result PlainLine CertCause
end [] = Ok End
end (z ∷ numbers) = Err causes.Form

-- ---- any line

-- a line of numbers alone
abbrev pub alone : List (List ℕ) → Result PlainLine CertCause → Result PlainLine CertCause
alone [] line = line
alone (word ∷ words) line = Err causes.Form

-- a shell, or none
abbrev pub shell_or_none : CertFormat → List ℤ → List (List ℕ) → Result PlainLine CertCause
shell_or_none format numbers [] = shell format numbers
shell_or_none format numbers (word ∷ words) = no_shell format numbers (word ∷ words)

abbrev pub said_by : CertFormat → Rank → List ℤ → List (List ℕ) → Result PlainLine CertCause
said_by format rank.Heading numbers words = alone words (heading format numbers)
said_by format rank.Window numbers words = alone words (window numbers)
said_by format rank.Threshold numbers words = alone words (threshold numbers)
said_by format rank.Objects numbers words = alone words (objects format numbers)
said_by format rank.Size numbers words = alone words (size format numbers)
said_by format rank.Primary numbers words = alone words (primary format numbers)
said_by format rank.Shell numbers words = shell_or_none format numbers words
said_by format rank.Box numbers words = alone words (box format numbers)
said_by format rank.Cell numbers words = cell format numbers (kind_of words)
said_by format rank.End numbers words = alone words (end numbers)

-- what a line of this kind says, by the words behind its first
unfoldable pub said : CertFormat → Rank → List (List ℕ) → Result PlainLine CertCause
said format rank words = said_by format rank (numbers_in words) (others_in words)

abbrev pub where_it_may_stand : CertFormat → Option Rank → Option Rank → List (List ℕ) → Result PlainLine CertCause
where_it_may_stand format before None words = Err causes.Form
where_it_may_stand format before (Some rank) words = if may_follow rank before then said format rank words else Err causes.Form

abbrev pub said_in : CertFormat → Option Rank → List (List ℕ) → Result PlainLine CertCause
said_in format before [] = Err causes.Form
said_in format before (word ∷ words) = where_it_may_stand format before (rank_of_word word) words

-- what a line says behind one of this kind: behind the last line nothing may stand
unfoldable pub line_said : CertFormat → Option Rank → List ℕ → Result PlainLine CertCause
line_said format before text = if has_ended before then Err causes.End else said_in format before (slice_split (λ b. b == 32) text)
