-- Tests of what an accepted certificate holds.
use Rattle.std.specs.Prelude.{ℕ, ◌+◌, ◌-◌, ◌==◌, Bool, true, false, ◌&&◌, ◌||◌, not, nat_le, ℤ, int_le, List, [], ◌∷◌, Option, Some, None, is_some, slice_get}
use Rattle.std.specs.List.{list_all, list_any, range_with_len}
use Rattle.std.specs.Option.{option_map_or}
use Rattle.cj_track.specs.PlainTracks.{PlainTrack}
use Rattle.cj_hermite.specs.Interpolant.{Four}
use Rattle.cj_hermite.specs.Pieces.{piece_holding, piece_at, curve_of_piece}
use Rattle.cj_case.specs.PlainProblems.{PlainProblem, threshold_of}
use Rattle.cj_case.specs.Slots.{slot_first, slot_last}
use Rattle.cj_case.specs.declared.shells.Shell.{Shell}
use Rattle.cj_bezier.specs.Gaps.{gap_terms, hull_gap}
use Rattle.cj_bezier.specs.Hulls.{Ends, PlainHull}
use Rattle.cj_case.specs.Leaves.{PlainLeaf}
use Rattle.cj_bezier.specs.Parts.{hulls_of}
use Rattle.cj_case.specs.Boxes.{Reach, PlainBox}
use Rattle.cj_bezier.specs.Verdicts.{are_at_least, are_at_most, supported}
use Rattle.cj_cert.specs.declared.cert_lines.ShellLine.{ShellLine}
use Rattle.cj_cert.specs.declared.cert_lines.SizeOfLine.{SizeOfLine}
use Rattle.cj_cert.specs.Accepted.{has_state_in}
use Rattle.cj_cert.specs.Certificates.{PlainBoxLine}
use Rattle.cj_cert.specs.Listed.{slots_of_line}

-- ---- sizes

-- the line of an object with its number and size
abbrev pub is_size_line : ℕ × ℕ → SizeOfLine → Bool
is_size_line object line = (line.object == object.0) && (line.size == object.1)

-- ---- shells

-- a track has a state from one tick to another
abbrev pub has_state_between : PlainTrack → ℕ → ℕ → Bool
has_state_between e from to = list_any (λ m. is_some (piece_at e m)) (range_with_len from (to + 1 - from))

-- both radii are shown by the gap of a hull against the origin
abbrev pub shows_radii : Shell → PlainHull → Bool
shows_radii shell h = ((shell.lo == 0) || are_at_least (gap_terms h).low shell.lo) && are_at_most (gap_terms h).high shell.hi

-- none where the track has no state, and else a shell whose radii each of its hulls shows
abbrev pub is_shell_over : PlainTrack → ℕ → ℕ → Option Shell → Bool
is_shell_over e from to None = not (has_state_between e from to)
is_shell_over e from to (Some shell) = has_state_between e from to && list_all (shows_radii shell) (hulls_of e from to)

-- the line of an object with its number and track
abbrev pub is_shell_line : ℕ → ℕ → ℕ × PlainTrack → ShellLine → Bool
is_shell_line from to object line = (line.object == object.0) && is_shell_over object.1 from to line.shell

-- ---- boxes

-- v is at most each of four values
abbrev pub is_at_most_each : ℤ → Four → Bool
is_at_most_each v k = int_le v k.k0 && (int_le v k.k1 && (int_le v k.k2 && int_le v k.k3))

-- v is at least each of four values
abbrev pub is_at_least_each : ℤ → Four → Bool
is_at_least_each v k = int_le k.k0 v && (int_le k.k1 v && (int_le k.k2 v && int_le k.k3 v))

-- the control values of an axis lie within a reach
abbrev pub is_axis_in : Reach → Ends → Bool
is_axis_in reach e = is_at_most_each reach.least e.low && is_at_least_each reach.most e.high

-- the control points of a hull lie in a box
abbrev pub is_hull_in : PlainBox → PlainHull → Bool
is_hull_in area h = is_axis_in area.x h.x && (is_axis_in area.y h.y && is_axis_in area.z h.z)

-- a track has a state in a slot, and its hulls there lie in a box
abbrev pub is_in_box : PlainProblem → PlainTrack → PlainBox → ℕ → Bool
is_in_box case e area slot = has_state_in case e slot && list_all (is_hull_in area) (hulls_of e (slot_first case.first slot) (slot_last case.first case.last slot))

-- the box of a line holds the hulls of its object in a slot
abbrev pub holds_in_slot : PlainProblem → PlainBoxLine → ℕ → Bool
holds_in_slot case line slot =
    option_map_or (λ e. list_all (is_hull_in line.area) (hulls_of e (slot_first case.first slot) (slot_last case.first case.last slot))) (slice_get case.tracks line.object) false

-- in each of its slots
abbrev pub holds_hulls : PlainProblem → PlainBoxLine → Bool
holds_hulls case line = list_all (holds_in_slot case line) (range_with_len line.first (line.last + 1 - line.first))

-- the first slots, each with its object, stand in front of the second
abbrev pub are_in_front : List (ℕ × ℕ) → List (ℕ × ℕ) → Bool
are_in_front [] places = true
are_in_front (slot ∷ slots) [] = false
are_in_front (slot ∷ slots) (place ∷ places) = ((slot.0 == place.0) && (slot.1 == place.1)) && are_in_front slots places

-- the line has the first slots of those that are left, and holds the hulls in them
abbrev pub is_box_line : PlainProblem → List (ℕ × ℕ) → PlainBoxLine → Bool
is_box_line case left line = nat_le line.first line.last && (are_in_front (slots_of_line line) left && holds_hulls case line)

-- ---- cells

-- the gap of both objects' hulls over a cell supports its kind
abbrev pub is_supported : PlainProblem → PlainLeaf → Bool
is_supported case s =
    option_map_or (λ e. option_map_or (λ f. option_map_or (λ x. option_map_or (λ y.
    supported (gap_terms (hull_gap (curve_of_piece x) (curve_of_piece y) s.first s.last)) (threshold_of case s.a s.b) s.kind)
    (piece_holding f s.first) false) (piece_holding e s.first) false) (slice_get case.tracks s.b) false) (slice_get case.tracks s.a) false
