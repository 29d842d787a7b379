-- The boxes of an object in each slot, by the line of its shell.
use Rattle.std.specs.Prelude.{ℕ, ◌==◌, if◌then◌else◌, List, Option, Some, None, option_and_then, option_map, slice_get}
use Rattle.cj_track.specs.PlainTracks.{PlainTrack}
use Rattle.cj_case.specs.PlainProblems.{PlainProblem}
use Rattle.cj_case.specs.declared.shells.Shell.{Shell}
use Rattle.cj_case.specs.Boxes.{PlainBox, plain_boxes}
use Rattle.cj_bezier.specs.AllBoxes.{boxes_over}
use Rattle.cj_cert.specs.declared.cert_lines.ShellLine.{ShellLine}
use Rattle.cj_checker.specs.declared.row.Row.{Row}
use Rattle.cj_checker.specs.Tests.{is_shell_over}

-- the boxes of a track in the first n slots of a window, where it has a shell there, and else nothing
abbrev pub row_of : PlainTrack → ℕ → ℕ → ℕ → Option Shell → Option (List (Option PlainBox))
row_of e first last n shell = if is_shell_over e first last shell then Some (boxes_over e first last n) else None

-- the same of the object in the place of a line, where the line names it
abbrev pub row_at : PlainProblem → ℕ → ℕ → ShellLine → Option (List (Option PlainBox))
row_at case n object line = option_and_then (λ e. if line.object == object then row_of e case.first case.last n line.shell else None) (slice_get case.tracks object)

-- how far the boxes reach that are found
abbrev pub plain_row : Option Row → Option (List (Option PlainBox))
plain_row row = option_map (λ r. plain_boxes r.boxes.items) row
