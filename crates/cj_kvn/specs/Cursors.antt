-- The lines of a file that are left where a reader has come to.
use Rattle.std.specs.Prelude.{◌≡◌, ℕ, ◌+◌, ◌≤◌, List, [], ◌∷◌, length, Option, Some, None, Result, Ok, Err, IsOk}
use Rattle.std.specs.Str.Lines.{lines}
use Rattle.cj_kvn.specs.Lines.{LineIsWithin, Numbered, form_at, line_form, lines_said}
use Rattle.cj_kvn.specs.declared.lines.KvnCause.{KvnCause}
use Rattle.cj_kvn.specs.declared.lines.Line.{Line}
use Rattle.cj_kvn.specs.declared.text_fault.LineFault.{LineFault}

-- the texts of the lines that are left of these bytes, and how many lines stand before them
pub record LinesLeft : Type 0 where
  pub bytes : List ℕ
  pub number : ℕ
  pub rest : List (List ℕ)

-- all of them
abbrev pub all_lines : List ℕ → LinesLeft
all_lines bytes = record { bytes = bytes; number = 0; rest = lines bytes }

-- what they say, or the first fault
abbrev pub said_by : LinesLeft → Result (List Numbered) (LineFault KvnCause)
said_by left = lines_said (left.number + 1) left.rest

-- this is the first of them, and these are left behind it
pub record IsFirst (left : LinesLeft) (line : Line) (behind : LinesLeft) : Type 0 where
  pub text : List ℕ
  pub first : left.rest ≡ text ∷ behind.rest
  pub form : line_form line.number text ≡ Ok (form_at left.bytes line.kind)
  pub within : LineIsWithin left.bytes line
  pub number : line.number ≡ left.number + 1
  pub counted : behind.number ≡ line.number
  pub few : line.number ≤ length left.bytes
  pub same : behind.bytes ≡ left.bytes

-- the first of them, if there is one, or the fault that they begin with
abbrev pub Follows : LinesLeft → Result (Option Line) (LineFault KvnCause) → LinesLeft → Type 0
Follows left (Ok None) behind = (left.rest ≡ []) × (behind ≡ left)
Follows left (Ok (Some line)) behind = IsFirst left line behind
Follows left (Err e) behind = said_by left ≡ Err e

-- each of them has a form, or this is their first fault
abbrev pub HaveForms : Result (Unit {0}) (LineFault KvnCause) → LinesLeft → Type 0
HaveForms (Ok done) left = IsOk (said_by left)
HaveForms (Err e) left = said_by left ≡ Err e
