-- What a text says as a certificate, or its first fault.
use Rattle.std.specs.Prelude.{ℕ, ◌+◌, ◌==◌, if◌then◌else◌, List, [], ◌∷◌, ◌++◌, codes, Option, Some, None, Result, Ok, Err}
use Rattle.std.specs.List.{slice_split, starts_with}
use Rattle.cj_base.specs.Ticks.{FIRST_TICK}
pub use Rattle.cj_kvn.specs.Faults.{at_line, ◌>>=◌ as and_then}
use Rattle.cj_kvn.specs.declared.text_fault.LineFault.{LineFault}
use Rattle.cj_formats.specs.declared.cert_cause.CertCause.{CertCause}
use Rattle.cj_formats.specs.declared.cert_cause.CertCause.TheVariants as causes
use Rattle.cj_formats.specs.declared.cert_version.CertVersion.{CertVersion}
use Rattle.cj_formats.specs.declared.cert_version.CertVersion.TheVariants.{One, Two}
use Rattle.cj_cert_text.specs.declared.rank.Rank.{Rank}
use Rattle.cj_case.specs.Leaves.{PlainLeaf}
use Rattle.cj_cert.specs.declared.cert_lines.ShellLine.{ShellLine}
use Rattle.cj_cert.specs.declared.cert_lines.SizeOfLine.{SizeOfLine}
use Rattle.cj_cert.specs.Certificates.{PlainBoxLine, PlainCertificate}
use Rattle.cj_brief.specs.Certificates.{PlainBrief}
use Rattle.cj_formats.specs.declared.cert_format.CertFormat.{CertFormat}
use Rattle.cj_formats.specs.declared.cert_format.CertFormat.TheVariants.{Full, Brief}
use Rattle.cj_cert_text.specs.Lines.{PlainLine, Heading, Window, Threshold, Objects, Size, Primary, Shell, Box, Cell, End, line_said, rank_of}
use Rattle.cj_cert_text.specs.Ranks.{has_ended}

-- a fault of a text at its line
abbrev pub Fault : Type 0
Fault = LineFault CertCause

-- what the lines of a certificate say together
pub record PlainSaid : Type 0 where
  pub first : ℕ
  pub last : ℕ
  pub threshold : ℕ
  pub objects : ℕ
  pub sizes : List SizeOfLine
  pub primaries : List ℕ
  pub shells : List ShellLine
  pub boxes : List PlainBoxLine
  pub cells : List PlainLeaf

abbrev pub ends_at : ℕ → Result PlainSaid Fault
ends_at line = Err (record { line = line; cause = causes.End })

-- the same with what a further line says
abbrev pub with_line : PlainSaid → PlainLine → PlainSaid
with_line c Heading = c
with_line c (Window first last) = record c { first = first; last = last }
with_line c (Threshold threshold) = record c { threshold = threshold }
with_line c (Objects count) = record c { objects = count }
with_line c (Size size) = record c { sizes = c.sizes ++ size ∷ [] }
with_line c (Primary object) = record c { primaries = c.primaries ++ object ∷ [] }
with_line c (Shell shell) = record c { shells = c.shells ++ shell ∷ [] }
with_line c (Box box) = record c { boxes = c.boxes ++ box ∷ [] }
with_line c (Cell cell) = record c { cells = c.cells ++ cell ∷ [] }
with_line c End = c

-- what stands behind the last LF of a text: nothing, where the last line is complete
abbrev pub behind_lines : CertFormat → ℕ → Option Rank → PlainSaid → List ℕ → Result PlainSaid Fault
behind_lines format number before c [] = if has_ended before then Ok c else ends_at number
behind_lines format number before c (b ∷ bs) = and_then (at_line number (line_said format before (b ∷ bs))) (λ line. ends_at (number + 1))

-- the parts of a text that are left, of which all but the last end with LF: the number of the first, the kind of the line before, and
-- what is said so far
unfoldable pub reads_on : CertFormat → ℕ → Option Rank → PlainSaid → List (List ℕ) → Result PlainSaid Fault
reads_on format number before c [] = ends_at number
reads_on format number before c (text ∷ []) = behind_lines format number before c text
reads_on format number before c (text ∷ next ∷ parts) =
    and_then (at_line number (line_said format before text)) (λ line. reads_on format (number + 1) (Some (rank_of line)) (with_line c line) (next ∷ parts))

abbrev pub nothing_said : PlainSaid
nothing_said = record {
  first = FIRST_TICK;
  last = FIRST_TICK;
  threshold = 0;
  objects = 0;
  sizes = [];
  primaries = [];
  shells = [];
  boxes = [];
  cells = [];
}

-- what the lines of a text say in this format
unfoldable pub lines_said : CertFormat → List ℕ → Result PlainSaid Fault
lines_said format bytes = reads_on format 1 None nothing_said (slice_split (λ b. b == 10) bytes)

-- ---- in full

abbrev pub in_version : CertVersion → PlainSaid → PlainCertificate
in_version version c = record {
  version = version;
  first = c.first;
  last = c.last;
  threshold = c.threshold;
  objects = c.objects;
  sizes = c.sizes;
  shells = c.shells;
  boxes = c.boxes;
  cells = c.cells;
}

-- the version of a text, if it is a certificate in full
abbrev pub version_of : List ℕ → CertVersion
version_of bytes = if starts_with (λ a b. a == b) bytes (codes "CONJ-CERT 2") then Two else One

-- what the bytes of a certificate in full say
unfoldable pub reading : List ℕ → Result PlainCertificate Fault
reading bytes = and_then (lines_said (Full (version_of bytes)) bytes) (λ c. Ok (in_version (version_of bytes) c))

-- ---- in brief

-- there are no boxes; in full there are no primaries
abbrev pub in_brief : PlainSaid → PlainBrief
in_brief c = record {
  first = c.first;
  last = c.last;
  threshold = c.threshold;
  objects = c.objects;
  sizes = c.sizes;
  primaries = c.primaries;
  shells = c.shells;
  cells = c.cells;
}

-- what the bytes of a certificate in brief say
unfoldable pub reading_in_brief : List ℕ → Result PlainBrief Fault
reading_in_brief bytes = and_then (lines_said Brief bytes) (λ c. Ok (in_brief c))
