-- Which certificates are accepted for a problem.
use Rattle.std.specs.Prelude.{◌≡◌, ℕ, ◌+◌, ◌-◌, ◌≤◌, Bool, List, map, filter, length, Option, Some, None, is_some, slice_get, IsSomeAnd}
use Rattle.std.specs.List.{All, AllZip, flat_map, range_with_len, enumerate_from, list_any}
use Rattle.cj_formats.specs.declared.cert_version.CertVersion.{CertVersion}
use Rattle.cj_formats.specs.declared.cert_version.CertVersion.TheVariants.{One, Two}
use Rattle.cj_track.specs.PlainTracks.{PlainTrack}
use Rattle.cj_hermite.specs.Pieces.{piece_at}
use Rattle.cj_case.specs.PlainProblems.{PlainProblem, threshold_of}
use Rattle.cj_hermite.specs.ObjectsAtTicks.{OfObjectsAt}
use Rattle.cj_case.specs.Cells.{PlainCell}
use Rattle.cj_hermite.specs.Roots.{slots_of, roots_of}
use Rattle.cj_case.specs.Slots.{slot_first, slot_last}
use Rattle.cj_hermite.specs.Walks.{HasNone}
use Rattle.cj_case.specs.declared.shells.Shell.{Shell}
use Rattle.cj_bezier.specs.Gaps.{gap_terms, hull_gap}
use Rattle.cj_bezier.specs.Hulls.{PlainHull}
use Rattle.cj_case.specs.Leaves.{PlainLeaf}
use Rattle.cj_bezier.specs.Parts.{hulls_of}
use Rattle.cj_bezier.specs.Shells.{IsInner, IsOuter}
use Rattle.cj_case.specs.Boxes.{PlainBox}
use Rattle.cj_bezier.specs.SlotBoxes.{IsAtMostEach, IsAtLeastEach}
use Rattle.cj_bezier.specs.Tiles.{Tile}
use Rattle.cj_bezier.specs.Verdicts.{Supports}
use Rattle.cj_cert.specs.declared.cert_lines.ShellLine.{ShellLine}
use Rattle.cj_cert.specs.declared.cert_lines.SizeOfLine.{SizeOfLine}
use Rattle.cj_cert.specs.Certificates.{PlainBoxLine, PlainCertificate}
use Rattle.cj_cert.specs.Listed.{slots_of_line, is_candidate_listed}

-- ---- sizes

-- a line for each object, in order, with its size
abbrev pub AreSizes : PlainProblem → List SizeOfLine → Type 0
AreSizes case lines = map (λ line. (line.object, line.size)) lines ≡ enumerate_from 0 case.sizes

-- the same in a version that tells them
abbrev pub AreSizesIn : CertVersion → PlainProblem → List SizeOfLine → Type 0
AreSizesIn One case lines = Unit {0}
AreSizesIn Two case lines = AreSizes case lines

-- ---- shells

-- both radii are shown by the gap of a hull against the origin
pub record ShowsRadii (shell : Shell) (h : PlainHull) : Type 0 where
  pub inner : IsInner (gap_terms h) shell.lo
  pub outer : IsOuter (gap_terms h) shell.hi

-- none where the track has no state from one tick to another, and else a shell whose radii each of its hulls shows
abbrev pub IsShellOver : PlainTrack → ℕ → ℕ → Option Shell → Type 0
IsShellOver e from to None = HasNone e from to
IsShellOver e from to (Some shell) = (¬ HasNone e from to) × All (ShowsRadii shell) (hulls_of e from to)

-- a line for each object, in order, with its shell in the window
pub record AreShells (case : PlainProblem) (lines : List ShellLine) : Type 0 where
  pub objects : map (λ line. line.object) lines ≡ range_with_len 0 (length case.tracks)
  pub hold : All (λ line. IsSomeAnd (slice_get case.tracks line.object) (λ e. IsShellOver e case.first case.last line.shell)) lines

-- ---- boxes

-- the control points of a hull lie in a box
pub record IsHullIn (area : PlainBox) (h : PlainHull) : Type 0 where
  pub x_low : IsAtMostEach area.x.least h.x.low
  pub x_high : IsAtLeastEach area.x.most h.x.high
  pub y_low : IsAtMostEach area.y.least h.y.low
  pub y_high : IsAtLeastEach area.y.most h.y.high
  pub z_low : IsAtMostEach area.z.least h.z.low
  pub z_high : IsAtLeastEach area.z.most h.z.high

-- a track has a state at a tick of a slot
abbrev pub has_state_in : PlainProblem → PlainTrack → ℕ → Bool
has_state_in case e slot =
    let from = slot_first case.first slot in
    let to = slot_last case.first case.last slot in
    list_any (λ m. is_some (piece_at e m)) (range_with_len from (to + 1 - from))

-- the slots in which an object has a state, with its number, in order of object and slot
abbrev pub slots_with_states : PlainProblem → List (ℕ × ℕ)
slots_with_states case = flat_map (λ object. map (λ slot. (object.0, slot)) (filter (has_state_in case object.1) (slots_of case))) (enumerate_from 0 case.tracks)

-- the box of a line holds the hulls of its object in each of its slots
abbrev pub HoldsHulls : PlainProblem → PlainBoxLine → Type 0
HoldsHulls case line = (slot : ℕ) → line.first ≤ slot → slot ≤ line.last
    → IsSomeAnd (slice_get case.tracks line.object) (λ e. All (IsHullIn line.area) (hulls_of e (slot_first case.first slot) (slot_last case.first case.last slot)))

-- the slots of the lines, run by run, are those in which the objects have a state
pub record AreBoxes (case : PlainProblem) (lines : List PlainBoxLine) : Type 0 where
  pub some : All (λ line. line.first ≤ line.last) lines
  pub slots : flat_map slots_of_line lines ≡ slots_with_states case
  pub hold : All (HoldsHulls case) lines

-- ---- cells

-- the gap of both objects' hulls over a cell supports its kind
abbrev pub IsSupported : PlainProblem → PlainLeaf → Type 0
IsSupported case s = OfObjectsAt case s.a s.b s.first (λ c d. Supports (gap_terms (hull_gap c d s.first s.last)) (threshold_of case s.a s.b) s.kind)

-- cells of which P holds, in parts that follow one another: one for each root, which tiles its ticks
pub record TileRoots (P : PlainLeaf → Type 0) (roots : List PlainCell) (cells : List PlainLeaf) : Type 0 where
  pub parts : List (List PlainLeaf)
  pub whole : cells ≡ flat_map (λ part. part) parts
  pub tiles : AllZip (λ r part. Tile P r.a r.b r.first r.last part) roots parts

-- ---- the certificate

-- It was made for this window, threshold and number of objects, and in version 2 for these sizes. Its shells and boxes hold the objects,
-- and its cells say of each tick of the roots, of the candidates by these shells and boxes, what is so.
pub record Accepted (case : PlainProblem) (c : PlainCertificate) : Type 0 where
  pub first : c.first ≡ case.first
  pub last : c.last ≡ case.last
  pub threshold : c.threshold ≡ case.threshold
  pub objects : c.objects ≡ length case.tracks
  pub sizes : AreSizesIn c.version case c.sizes
  pub shells : AreShells case c.shells
  pub boxes : AreBoxes case c.boxes
  pub cells : TileRoots (IsSupported case) (roots_of (is_candidate_listed case c) case) c.cells
