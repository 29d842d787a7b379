-- What the lines of a key-value file say.
use Rattle.std.specs.Prelude.{ℕ, ◌+◌, ◌-◌, Bool, true, false, ◌&&◌, ◌||◌, ◌==◌, nat_eq, nat_lt, nat_le, if◌then◌else◌, List, [], ◌∷◌, length, drop, take, filter, map, Option, Some, None, Result, Ok, Err, codes}
use Rattle.std.specs.Char.{is_ascii_digit, is_ascii_uppercase}
use Rattle.std.specs.Cmp.Lexicographic.{pointwise}
use Rattle.std.specs.List.{list_all, list_any, before_first, after_first, starts_with, prefix_len, suffix_len}
use Rattle.std.specs.Str.Lines.{lines}
use Rattle.cj_kvn.specs.Faults.{◌>>=◌}
use Rattle.cj_kvn.specs.Ranges.{text_at, IsWithin}
use Rattle.cj_kvn.specs.declared.lines.KvnCause.{KvnCause}
use Rattle.cj_kvn.specs.declared.lines.KvnCause.TheVariants.{NotPrintable, NoLineForm}
use Rattle.cj_kvn.specs.declared.lines.Line.{Line}
use Rattle.cj_kvn.specs.declared.lines.LineKind.{LineKind}
use Rattle.cj_kvn.specs.declared.lines.LineKind.TheVariants as kinds
use Rattle.cj_kvn.specs.declared.lines.MarkKind.{MarkKind}
use Rattle.cj_kvn.specs.declared.lines.MarkKind.TheVariants.{MetaStart, MetaStop, CovarianceStart, CovarianceStop}
use Rattle.cj_kvn.specs.declared.text_fault.LineFault.{LineFault}

-- a space or a tab
abbrev pub is_blank : ℕ → Bool
is_blank b = (b == 32) || (b == 9)

-- a tab, or from the space to the tilde
abbrev pub is_printable : ℕ → Bool
is_printable b = (b == 9) || (nat_le 32 b && nat_le b 126)

abbrev pub is_equals : ℕ → Bool
is_equals b = b == 61

-- the text without the blanks before it
abbrev pub without_leading_blanks : List ℕ → List ℕ
without_leading_blanks text = drop (prefix_len is_blank text) text

-- the text without the blanks behind it
abbrev pub without_trailing_blanks : List ℕ → List ℕ
without_trailing_blanks text = take (length text - suffix_len is_blank text) text

-- the text without outer blanks
abbrev pub trimmed : List ℕ → List ℕ
trimmed text = without_trailing_blanks (without_leading_blanks text)

abbrev pub is_end_or_blank : List ℕ → Bool
is_end_or_blank [] = true
is_end_or_blank (b ∷ text) = is_blank b

-- the word COMMENT after any blanks, and then a blank or the line's end
abbrev pub is_comment : List ℕ → Bool
is_comment line =
    let text = without_leading_blanks line in
    starts_with nat_eq text (codes "COMMENT") && is_end_or_blank (drop 7 text)

-- the mark that a word is
abbrev pub mark_of : List ℕ → Option MarkKind
mark_of word =
    if pointwise nat_eq word (codes "META_START") then Some MetaStart
    else if pointwise nat_eq word (codes "META_STOP") then Some MetaStop
    else if pointwise nat_eq word (codes "COVARIANCE_START") then Some CovarianceStart
    else if pointwise nat_eq word (codes "COVARIANCE_STOP") then Some CovarianceStop
    else None

-- A to Z, 0 to 9 and _
abbrev pub is_key_byte : ℕ → Bool
is_key_byte b = is_ascii_uppercase b || is_ascii_digit b || (b == 95)

-- one or more of these
abbrev pub is_key : List ℕ → Bool
is_key text = nat_lt 0 (length text) && list_all is_key_byte text

-- what a line says
pub data Form : Type 0 where
  Blank : Form
  Comment : Form
  Mark : MarkKind → Form
  Pair : List ℕ → List ℕ → Form
  Row : List ℕ → Form

-- a pair with a key
abbrev pub pair_of : ℕ → List ℕ → List ℕ → Result Form (LineFault KvnCause)
pair_of number key value = if is_key key then Ok (Pair key value) else Err (record { line = number; cause = NoLineForm })

-- a pair where there is an equals sign, and else a row
unfoldable pub pair_or_row : ℕ → List ℕ → Result Form (LineFault KvnCause)
pair_or_row number text =
    if list_any is_equals text then pair_of number (trimmed (before_first is_equals text)) (trimmed (after_first is_equals text))
    else Ok (Row text)

abbrev pub mark_or : Option MarkKind → Result Form (LineFault KvnCause) → Result Form (LineFault KvnCause)
mark_or None other = other
mark_or (Some mark) other = Ok (Mark mark)

-- what a line says that is no comment, of its text without outer blanks
unfoldable pub form_of : ℕ → List ℕ → Result Form (LineFault KvnCause)
form_of number text = if length text == 0 then Ok Blank else mark_or (mark_of text) (pair_or_row number text)

-- what a line of this number says, or its fault
unfoldable pub line_form : ℕ → List ℕ → Result Form (LineFault KvnCause)
line_form number line =
    if is_comment line then Ok Comment
    else if list_all is_printable line then form_of number (trimmed line)
    else Err (record { line = number; cause = NotPrintable })

-- a line by its number and what it says
pub record Numbered : Type 0 where
  pub number : ℕ
  pub form : Form

-- neither blank nor a comment
abbrev pub tells : Form → Bool
tells Blank = false
tells Comment = false
tells (Mark mark) = true
tells (Pair key value) = true
tells (Row text) = true

-- the lines that say something
abbrev pub telling : List Numbered → List Form
telling lines = filter tells (map (λ line. line.form) lines)

-- what the lines say from this number on, or the first fault
abbrev pub lines_said : ℕ → List (List ℕ) → Result (List Numbered) (LineFault KvnCause)
lines_said number [] = Ok []
lines_said number (line ∷ rest) = do
  form ← line_form number line
  others ← lines_said (number + 1) rest
  Ok (record { number = number; form = form } ∷ others)

-- what the lines of a file say, numbered from 1, or the first fault
abbrev pub reading : List ℕ → Result (List Numbered) (LineFault KvnCause)
reading bytes = lines_said 1 (lines bytes)

-- what a line of the program says of these bytes
abbrev pub form_at : List ℕ → LineKind → Form
form_at bytes kinds.Blank = Blank
form_at bytes kinds.Comment = Comment
form_at bytes (kinds.Mark mark) = Mark mark
form_at bytes (kinds.Pair key value) = Pair (text_at bytes key) (text_at bytes value)
form_at bytes (kinds.Row text) = Row (text_at bytes text)

abbrev pub line_at : List ℕ → Line → Numbered
line_at bytes line = record { number = line.number; form = form_at bytes line.kind }

abbrev pub lines_at : List ℕ → List Line → List Numbered
lines_at bytes ls = map (line_at bytes) ls

-- the parts that a line names lie in the bytes
abbrev pub KindIsWithin : List ℕ → LineKind → Type 0
KindIsWithin bytes kinds.Blank = Unit {0}
KindIsWithin bytes kinds.Comment = Unit {0}
KindIsWithin bytes (kinds.Mark mark) = Unit {0}
KindIsWithin bytes (kinds.Pair key value) = IsWithin bytes key × IsWithin bytes value
KindIsWithin bytes (kinds.Row text) = IsWithin bytes text

abbrev pub LineIsWithin : List ℕ → Line → Type 0
LineIsWithin bytes line = KindIsWithin bytes line.kind
