-- How the readers of lines and numbers answer.
use Rattle.std.specs.Prelude.{◌≡◌, ℕ, ◌-◌, ◌^◌, ◌==◌, Bool, true, false, ℤ, pos, neg_ℤ, List, [], ◌∷◌, map, Option, Some, None, Result, Ok, Err}
use Rattle.std.specs.Borrow.{Bor}
use Rattle.std.specs.Int.{int_min, int_max}
use Rattle.std.specs.List.{slice_split}
pub use Rattle.cj_kvn.specs.Faults.{Gives, Tells}
use Rattle.cj_cert_text.specs.declared.cert_line.CertLine.{CertLine}
use Rattle.cj_cert_text.specs.declared.cert_line.CertLine.TheVariants as lines
use Rattle.cj_cert_text.specs.declared.draft.CertificateDraft.{CertificateDraft}
use Rattle.cj_formats.specs.declared.cert_cause.CertCause.{CertCause}
use Rattle.cj_formats.specs.declared.cert_cause.CertCause.TheVariants as causes
use Rattle.cj_cert.specs.Certificates.{plain_box_line, plain_cell_line}
use Rattle.cj_cert_text.specs.Lines.{PlainLine, Heading, Window, Threshold, Objects, Size, Primary, Shell, Box, Cell, End}
use Rattle.cj_cert_text.specs.Numbers.{numbers_in, others_in}
use Rattle.cj_cert_text.specs.Reading.{PlainSaid}

-- the greatest size to which a number is read: beyond every range
abbrev pub CAP : ℤ
CAP = pos (2 ^ 64 - 1)

abbrev pub capped : ℤ → ℤ
capped z = int_max (neg_ℤ CAP) (int_min z CAP)

-- the words of a line, of which those that are left begin a text
abbrev pub words_in : Option (Bor (List ℕ)) → List (List ℕ)
words_in None = []
words_in (Some text) = slice_split (λ b. b == 32) text.now

abbrev pub plain_line : CertLine → PlainLine
plain_line lines.Heading = Heading
plain_line (lines.Window window) = Window window.first.micros window.last.micros
plain_line (lines.Threshold threshold) = Threshold threshold
plain_line (lines.Objects count) = Objects count
plain_line (lines.Size size) = Size size
plain_line (lines.Primary object) = Primary object
plain_line (lines.Shell shell) = Shell shell
plain_line (lines.Box box) = Box (plain_box_line box)
plain_line (lines.Cell cell) = Cell (plain_cell_line cell)
plain_line lines.End = End

-- a number is taken as this value where it is in its range
abbrev pub Takes : {X V : Type 0} → (X → V) → Bool → V → Result X CertCause → Type 0
Takes view ok value (Ok x) = (ok ≡ true) × (view x ≡ value)
Takes view ok value (Err cause) = (ok ≡ false) × (cause ≡ causes.Range)

-- what a draft says so far
abbrev pub plain_draft : CertificateDraft → PlainSaid
plain_draft d = record {
  first = d.window.first.micros;
  last = d.window.last.micros;
  threshold = d.threshold;
  objects = d.objects;
  sizes = d.sizes.items;
  primaries = d.primaries.items;
  shells = d.shells.items;
  boxes = map plain_box_line d.boxes.items;
  cells = map plain_cell_line d.cells.items;
}

-- no number stands first
pub record HasNoNumber (words : List (List ℕ)) : Type 0 where
  pub numbers : numbers_in words ≡ []
  pub others : others_in words ≡ words

-- the first word is a number, and these words stand behind it
pub record LeadsTo (words : List (List ℕ)) (number : ℤ) (behind : List (List ℕ)) : Type 0 where
  pub numbers_told : map capped (numbers_in words) ≡ number ∷ map capped (numbers_in behind)
  pub others_told : others_in words ≡ others_in behind
