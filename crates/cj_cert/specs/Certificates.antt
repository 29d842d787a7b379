-- Certificates as plain facts. Objects are numbered from 0.
use Rattle.std.specs.Prelude.{ℕ, ◌+◌, List, length, map}
use Rattle.cj_formats.specs.declared.cert_version.CertVersion.{CertVersion}
use Rattle.cj_case.specs.Leaves.{PlainLeaf}
use Rattle.cj_case.specs.Boxes.{PlainBox, plain_box}
use Rattle.cj_cert.specs.declared.cert_lines.BoxLine.{BoxLine}
use Rattle.cj_cert.specs.declared.cert_lines.CellLine.{CellLine}
use Rattle.cj_cert.specs.declared.cert_lines.ShellLine.{ShellLine}
use Rattle.cj_cert.specs.declared.cert_lines.SizeOfLine.{SizeOfLine}
use Rattle.cj_cert.specs.declared.certificate.Certificate.{Certificate}

-- how far an object reaches in each of the slots from the first to the last
pub record PlainBoxLine : Type 0 where
  pub object : ℕ
  pub first : ℕ
  pub last : ℕ
  pub area : PlainBox

abbrev pub plain_box_line : BoxLine → PlainBoxLine
plain_box_line b = record { object = b.object; first = b.first; last = b.last; area = plain_box b.area }

abbrev pub plain_cell_line : CellLine → PlainLeaf
plain_cell_line c = record { a = c.pair.a; b = c.pair.b; first = c.first.micros; last = c.last.micros; kind = c.kind }

-- what a certificate says: the window from its first tick to its last, the threshold in nm, how many objects there are, and of these
-- the sizes, the shells, the boxes by slots, and what each pair is at which ticks
pub record PlainCertificate : Type 0 where
  pub version : CertVersion
  pub first : ℕ
  pub last : ℕ
  pub threshold : ℕ
  pub objects : ℕ
  pub sizes : List SizeOfLine
  pub shells : List ShellLine
  pub boxes : List PlainBoxLine
  pub cells : List PlainLeaf

abbrev pub plain_certificate : Certificate → PlainCertificate
plain_certificate c = record {
  version = c.version;
  first = c.window.first.micros;
  last = c.window.last.micros;
  threshold = c.threshold;
  objects = c.objects;
  sizes = c.sizes.items;
  shells = c.shells.items;
  boxes = map plain_box_line c.boxes.items;
  cells = map plain_cell_line c.cells.items;
}

-- how many lines tell of objects and pairs
abbrev pub line_count : PlainCertificate → ℕ
line_count c = length c.sizes + length c.shells + length c.boxes + length c.cells
