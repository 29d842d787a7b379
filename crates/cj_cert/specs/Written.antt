-- The certificate that a run writes for a problem: exact shells and boxes, and the one-thread list.
use Rattle.std.specs.Prelude.{ℕ, List, [], map, length, Option, option_map}
use Rattle.std.specs.List.{enumerate_from, filter_map, flat_map, range_with_len}
use Rattle.cj_formats.specs.declared.cert_version.CertVersion.TheVariants.{One}
use Rattle.cj_track.specs.PlainTracks.{PlainTrack}
use Rattle.cj_case.specs.PlainProblems.{PlainProblem}
use Rattle.cj_hermite.specs.Roots.{roots_of, slots_of}
use Rattle.cj_case.specs.Slots.{slot_first, slot_last}
use Rattle.cj_case.specs.Tables.{row_of}
use Rattle.cj_case.specs.Leaves.{PlainLeaf}
use Rattle.cj_bezier.specs.Candidates.{is_candidate}
use Rattle.cj_bezier.specs.RootLeaves.{leaves_of_roots}
use Rattle.cj_case.specs.declared.shells.Shell.{Shell}
use Rattle.cj_bezier.specs.Shells.{shell_in, shell_of}
use Rattle.cj_case.specs.Boxes.{PlainBox}
use Rattle.cj_bezier.specs.SlotBoxes.{box_of, reaches_in}
use Rattle.cj_cert.specs.declared.cert_lines.ShellLine.{ShellLine}
use Rattle.cj_cert.specs.declared.cert_lines.SizeOfLine.{SizeOfLine}
use Rattle.cj_cert.specs.Certificates.{PlainBoxLine, PlainCertificate}

-- the line of an object with its size
abbrev pub size_line : ℕ × ℕ → SizeOfLine
size_line object = record { object = object.0; size = object.1 }

-- a line for each object
abbrev pub size_lines : List ℕ → List SizeOfLine
size_lines sizes = map size_line (enumerate_from 0 sizes)

-- the line of an object with its shell
abbrev pub shell_line : PlainProblem → ℕ × PlainTrack → ShellLine
shell_line case object = record { object = object.0; shell = shell_of object.1 case.first case.last }

-- the box of an object in a slot
abbrev pub box_in : PlainProblem → PlainTrack → ℕ → Option PlainBox
box_in case e slot = box_of e (slot_first case.first slot) (slot_last case.first case.last slot)

-- the line of a box
abbrev pub line_of_box : ℕ → ℕ → PlainBox → PlainBoxLine
line_of_box object slot area = record { object = object; first = slot; last = slot; area = area }

-- the line of an object in a slot, if it has a state there
abbrev pub line_in_slot : PlainProblem → ℕ × PlainTrack → ℕ → Option PlainBoxLine
line_in_slot case object slot = option_map (line_of_box object.0 slot) (box_in case object.1 slot)

-- a line for each slot in which an object has a state
abbrev pub box_lines : PlainProblem → ℕ × PlainTrack → List PlainBoxLine
box_lines case object = filter_map (line_in_slot case object) (slots_of case)

-- the leaves of all candidates, in order of pair and time
unfoldable pub leaves_in_order : PlainProblem → List PlainLeaf
leaves_in_order case = leaves_of_roots case (roots_of (is_candidate case) case)

-- in version 1
unfoldable pub written : PlainProblem → PlainCertificate
written case = record {
  version = One;
  first = case.first;
  last = case.last;
  threshold = case.threshold;
  objects = length case.tracks;
  sizes = [];
  shells = map (shell_line case) (enumerate_from 0 case.tracks);
  boxes = flat_map (box_lines case) (enumerate_from 0 case.tracks);
  cells = leaves_in_order case;
}

-- ---- the same lines from the shells and boxes of all objects

-- the line of an object by the shells of all
abbrev pub line_by_shells : List (Option Shell) → ℕ → ShellLine
line_by_shells shells object = record { object = object; shell = shell_in shells object }

-- the line of an object in a slot by its row of boxes
abbrev pub line_in_row : List (Option PlainBox) → ℕ → ℕ → Option PlainBoxLine
line_in_row row object slot = option_map (line_of_box object slot) (reaches_in row slot)

-- the lines of an object in the first n of the slots, by its row of boxes
abbrev pub lines_in_row : List (Option PlainBox) → ℕ → ℕ → List PlainBoxLine
lines_in_row row n object = filter_map (line_in_row row object) (range_with_len 0 n)

-- the same by the rows of all objects
abbrev pub lines_by_boxes : List (List (Option PlainBox)) → ℕ → ℕ → List PlainBoxLine
lines_by_boxes rows n object = lines_in_row (row_of rows object) n object
