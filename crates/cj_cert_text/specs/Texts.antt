-- The text of a certificate. Objects are numbered from 1 in it.
use Rattle.std.specs.Prelude.{ℕ, ◌+◌, ℤ, pos, List, [], ◌∷◌, ◌++◌, codes, flat_map, map, Option, Some, None}
use Rattle.std.specs.Fmt.{signed_decimal}
use Rattle.cj_formats.specs.declared.cert_version.CertVersion.{CertVersion}
use Rattle.cj_formats.specs.declared.cert_version.CertVersion.TheVariants.{One, Two}
use Rattle.cj_formats.specs.declared.cert_format.CertFormat.{CertFormat}
use Rattle.cj_formats.specs.declared.cert_format.CertFormat.TheVariants.{Full, Brief}
use Rattle.cj_formats.specs.Formats.{number_of_format}
use Rattle.cj_case.specs.declared.kind.Kind.{Kind}
use Rattle.cj_case.specs.declared.kind.Kind.TheVariants as kind
use Rattle.cj_case.specs.declared.shells.Shell.{Shell}
use Rattle.cj_case.specs.Leaves.{PlainLeaf}
use Rattle.cj_case.specs.Boxes.{PlainBox}
use Rattle.cj_cert.specs.declared.cert_lines.ShellLine.{ShellLine}
use Rattle.cj_cert.specs.declared.cert_lines.SizeOfLine.{SizeOfLine}
use Rattle.cj_kvn.specs.Entries.{line_of_words}
use Rattle.cj_cert.specs.Certificates.{PlainBoxLine, PlainCertificate}
use Rattle.cj_brief.specs.Certificates.{PlainBrief}

-- numbers, each with a space before it
abbrev pub spaced_numbers : List ℤ → List ℕ
spaced_numbers numbers = flat_map (λ z. 32 ∷ signed_decimal z) numbers

-- a line of a word and numbers
unfoldable pub row : List ℕ → List ℤ → List ℕ
row word numbers = line_of_words (word ∷ map signed_decimal numbers)

-- a line of a word, numbers and a last word
unfoldable pub row_ended : List ℕ → List ℤ → List ℕ → List ℕ
row_ended word numbers last = line_of_words (word ∷ (map signed_decimal numbers ++ last ∷ []))

-- the number of an object in the text
abbrev pub number : ℕ → ℤ
number object = pos (object + 1)

-- the first four lines, of a format, a window, a threshold and a number of objects
abbrev pub first_lines_in : CertFormat → ℕ → ℕ → ℕ → ℕ → List ℕ
first_lines_in format first last threshold objects =
    row (codes "CONJ-CERT") (pos (number_of_format format) ∷ [])
    ++ row (codes "WINDOW") (pos first ∷ pos last ∷ [])
    ++ row (codes "THRESHOLD") (pos threshold ∷ [])
    ++ row (codes "OBJECTS") (pos objects ∷ [])

-- the same of a version
abbrev pub first_lines : CertVersion → ℕ → ℕ → ℕ → ℕ → List ℕ
first_lines version first last threshold objects = first_lines_in (Full version) first last threshold objects

abbrev pub head_text : PlainCertificate → List ℕ
head_text c = first_lines c.version c.first c.last c.threshold c.objects

abbrev pub size_text : SizeOfLine → List ℕ
size_text s = row (codes "SIZE") (number s.object ∷ pos s.size ∷ [])

abbrev pub primary_text : ℕ → List ℕ
primary_text object = row (codes "PRIMARY") (number object ∷ [])

-- the shell of an object, where there is one
abbrev pub shell_row : ℕ → Option Shell → List ℕ
shell_row object None = row_ended (codes "SHELL") (number object ∷ []) (codes "NONE")
shell_row object (Some s) = row (codes "SHELL") (number object ∷ pos s.lo ∷ pos s.hi ∷ [])

abbrev pub shell_text : ShellLine → List ℕ
shell_text s = shell_row s.object s.shell

-- the slots of a box: in version 1 the one, in version 2 the first and the last
abbrev pub slots : CertVersion → PlainBoxLine → List ℤ
slots One b = pos b.first ∷ []
slots Two b = pos b.first ∷ pos b.last ∷ []

-- the ends of a box, axis by axis
abbrev pub ends : PlainBox → List ℤ
ends r = r.x.least ∷ r.x.most ∷ r.y.least ∷ r.y.most ∷ r.z.least ∷ r.z.most ∷ []

abbrev pub box_text : CertVersion → PlainBoxLine → List ℕ
box_text version b = row (codes "BOX") (number b.object ∷ (slots version b ++ ends b.area))

abbrev pub kind_word : Kind → List ℕ
kind_word kind.Far = codes "F"
kind_word kind.Near = codes "N"
kind_word kind.Undecided = codes "U"

abbrev pub cell_text : PlainLeaf → List ℕ
cell_text s = row_ended (codes "CELL") (number s.a ∷ number s.b ∷ pos s.first ∷ pos s.last ∷ []) (kind_word s.kind)

-- the text of a certificate, by its version
unfoldable pub text_of : PlainCertificate → List ℕ
text_of c =
    head_text c
    ++ flat_map size_text c.sizes
    ++ flat_map shell_text c.shells
    ++ flat_map (box_text c.version) c.boxes
    ++ flat_map cell_text c.cells
    ++ row (codes "END") []

-- the text of a certificate in brief
unfoldable pub brief_text : PlainBrief → List ℕ
brief_text c =
    first_lines_in Brief c.first c.last c.threshold c.objects
    ++ flat_map size_text c.sizes
    ++ flat_map primary_text c.primaries
    ++ flat_map shell_text c.shells
    ++ flat_map cell_text c.cells
    ++ row (codes "END") []
