-- Certificates in brief as plain facts. Objects are numbered from 0.
use Rattle.std.specs.Prelude.{ℕ, ◌+◌, List, length, map, Option}
use Rattle.cj_case.specs.Leaves.{PlainLeaf}
use Rattle.cj_case.specs.declared.shells.Shell.{Shell}
use Rattle.cj_cert.specs.declared.cert_lines.ShellLine.{ShellLine}
use Rattle.cj_cert.specs.declared.cert_lines.SizeOfLine.{SizeOfLine}
use Rattle.cj_cert.specs.Certificates.{plain_cell_line}
use Rattle.cj_brief.specs.declared.brief_certificate.BriefCertificate.{BriefCertificate}

-- what a certificate in brief says: the window from its first tick to its last, the threshold in nm, how many objects there are, and of
-- these the sizes, which are named as primaries, and the shells, and what some pairs are at which ticks
pub record PlainBrief : Type 0 where
  pub first : ℕ
  pub last : ℕ
  pub threshold : ℕ
  pub objects : ℕ
  pub sizes : List SizeOfLine
  pub primaries : List ℕ
  pub shells : List ShellLine
  pub cells : List PlainLeaf

abbrev pub plain_brief : BriefCertificate → PlainBrief
plain_brief c = record {
  first = c.window.first.micros;
  last = c.window.last.micros;
  threshold = c.threshold;
  objects = c.objects;
  sizes = c.sizes.items;
  primaries = c.primaries.items;
  shells = c.shells.items;
  cells = map plain_cell_line c.cells.items;
}

-- the shells of all objects
abbrev pub shells_in_brief : PlainBrief → List (Option Shell)
shells_in_brief c = map (λ line. line.shell) c.shells

-- how many lines tell of objects and pairs
abbrev pub line_count : PlainBrief → ℕ
line_count c = length c.sizes + length c.primaries + length c.shells + length c.cells
