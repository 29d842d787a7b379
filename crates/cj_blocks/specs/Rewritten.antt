-- Certificates of version 2: one box for a block of slots, where the object then touches nothing more.
use Rattle.std.specs.Prelude.{ℕ, List, map, filter, length, Option}
use Rattle.std.specs.List.{range_with_len}
use Rattle.cj_formats.specs.declared.cert_version.CertVersion.{CertVersion}
use Rattle.cj_formats.specs.declared.cert_version.CertVersion.TheVariants.{One, Two}
use Rattle.cj_case.specs.Pairs.{pairs_of}
use Rattle.cj_case.specs.PlainProblems.{PlainProblem}
use Rattle.cj_hermite.specs.Roots.{slots_of}
use Rattle.cj_case.specs.Slots.{slot_count}
use Rattle.cj_bezier.specs.Candidates.{pairs_kept}
use Rattle.cj_bezier.specs.Shells.{keeps_between}
use Rattle.cj_case.specs.Boxes.{PlainBox}
use Rattle.cj_blocks.specs.Blocks.{PlainBlock, Given, blocks_of}
use Rattle.cj_cert.specs.Certificates.{PlainBoxLine, PlainCertificate}
use Rattle.cj_cert.specs.Listed.{box_listed, shells_listed}
use Rattle.cj_bezier.specs.AllBoxes.{boxes_of}
use Rattle.cj_cert.specs.Written.{size_lines, written}

-- ---- lines

abbrev pub line_of_block : PlainBlock → PlainBoxLine
line_of_block b = record { object = b.object; first = b.first; last = b.last; area = b.area }

-- ---- a certificate with blocks

-- the boxes that are listed for all objects in each slot, a row for each object
unfoldable pub boxes_by_lines : PlainProblem → List PlainBoxLine → List (List (Option PlainBox))
boxes_by_lines case lines = map (λ object. map (λ slot. box_listed lines slot object) (slots_of case)) (range_with_len 0 (length case.tracks))

-- the pairs whose listed shells are not parted
abbrev pub pairs_by_shells : PlainProblem → PlainCertificate → List (ℕ × ℕ)
pairs_by_shells case c = filter (keeps_between case.primaries case.threshold case.sizes (shells_listed c)) (pairs_of (length case.tracks))

-- boxes and kept pairs of a problem
abbrev pub given_of : PlainProblem → List (List (Option PlainBox)) → List (ℕ × ℕ) → Given
given_of case boxes kept = record {
  objects = length case.tracks;
  slots = slot_count case.first case.last;
  boxes = boxes;
  kept = kept;
  sizes = case.sizes;
  threshold = case.threshold;
}

-- a certificate with the problem's sizes and these blocks, and the same shells and cells
unfoldable pub with_blocks : PlainProblem → Given → PlainCertificate → PlainCertificate
with_blocks case g c = record {
  version = Two;
  first = c.first;
  last = c.last;
  threshold = c.threshold;
  objects = c.objects;
  sizes = size_lines case.sizes;
  shells = c.shells;
  boxes = map line_of_block (blocks_of g);
  cells = c.cells;
}

-- a certificate of version 1 in version 2: blocks over its listed boxes and the pairs that its shells keep
abbrev pub rewritten : PlainProblem → PlainCertificate → PlainCertificate
rewritten case c = with_blocks case (given_of case (boxes_by_lines case c.boxes) (pairs_by_shells case c)) c

-- a certificate of this version in version 2
abbrev pub from_version : CertVersion → PlainProblem → PlainCertificate → PlainCertificate
from_version One case c = rewritten case c
from_version Two case c = c

-- a certificate in version 2
abbrev pub in_version_2 : PlainProblem → PlainCertificate → PlainCertificate
in_version_2 case c = from_version c.version case c

-- what a run writes in version 2: blocks over the exact boxes and the pairs that are kept
abbrev pub written_in_blocks : PlainProblem → PlainCertificate
written_in_blocks case = with_blocks case (given_of case (boxes_of case) (pairs_kept case)) (written case)

-- what a run writes in a version
abbrev pub written_in : CertVersion → PlainProblem → PlainCertificate
written_in One case = written case
written_in Two case = written_in_blocks case
