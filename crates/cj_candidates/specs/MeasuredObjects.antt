-- What is measured of objects, one by one and of all of a list.
use Rattle.std.specs.Prelude.{◌≡◌, ℕ, ◌<◌, List, Option, Some, length, map, option_map, All, slice_get}
use Rattle.cj_track.specs.declared.track.Track.{Track}
use Rattle.cj_track.specs.PlainTracks.{PlainTrack}
use Rattle.cj_track.specs.Tracks.{plain_track}
use Rattle.cj_case.specs.declared.measured.Measured.{Measured}
use Rattle.cj_case.specs.declared.problem.Problem.{Problem}
use Rattle.cj_case.specs.Slots.{slot_count, slot_first, slot_last}
use Rattle.cj_case.specs.Tables.{Table}
use Rattle.cj_case.specs.declared.axis_box.AxisBox.{AxisBox}
use Rattle.cj_case.specs.declared.shells.Shell.{Shell}
use Rattle.cj_bezier.specs.Shells.{shell_of}
use Rattle.cj_case.specs.Boxes.{plain_boxes, plain_rows}
use Rattle.cj_bezier.specs.SlotBoxes.{box_of}
use Rattle.cj_bezier.specs.Enclosed.{IsInBox, IsInShell}
use Rattle.cj_bezier.specs.AllBoxes.{boxes_over}
use Rattle.cj_candidates.specs.declared.measured_object.MeasuredObject.{MeasuredObject}

-- an object is in its own shell
abbrev pub IsInOwnShell : ℕ → ℕ → PlainTrack → Type 0
IsInOwnShell from to e = IsInShell from to e (shell_of e from to)

-- an object is in its own box
abbrev pub IsInOwnBox : ℕ → ℕ → PlainTrack → Type 0
IsInOwnBox from to e = IsInBox from to e (box_of e from to)

-- in each of the first n slots of a window
abbrev pub IsInOwnBoxes : ℕ → ℕ → ℕ → PlainTrack → Type 0
IsInOwnBoxes first last n e = (slot : ℕ) → slot < n → IsInOwnBox (slot_first first slot) (slot_last first last slot) e

-- they are the shell of an object in a window and its boxes in the first n slots, and it is in them
pub record IsMeasured (e : PlainTrack) (first last n : ℕ) (found : MeasuredObject) : Type 0 where
  pub shell : found.shell ≡ shell_of e first last
  pub boxes : plain_boxes found.boxes.items ≡ boxes_over e first last n
  pub in_shell : IsInOwnShell first last e
  pub in_boxes : IsInOwnBoxes first last n e

-- they are the shells of these objects in a window and their boxes in its first n slots, and each object is in its own
pub record AreTheirs (tracks : List Track) (first last n : ℕ) (found_shells : List (Option Shell)) (found_boxes : Table (Option AxisBox)) : Type 0 where
  pub shells : found_shells ≡ map (λ e. shell_of e first last) (map plain_track tracks)
  pub boxes : plain_rows found_boxes.rows ≡ map (λ e. boxes_over e first last n) (map plain_track tracks)
  pub slots : found_boxes.slots ≡ n
  pub in_shells : All (IsInOwnShell first last) (map plain_track tracks)
  pub in_boxes : All (IsInOwnBoxes first last n) (map plain_track tracks)

-- an object is measured among these at a place: there its shell and its boxes stand, and it is in them
pub record IsMeasuredAt (e : PlainTrack) (first last n : ℕ) (found : Measured) (p : ℕ) : Type 0 where
  pub shell : slice_get found.shells.items p ≡ Some (shell_of e first last)
  pub boxes : option_map plain_boxes (slice_get found.boxes.rows p) ≡ Some (boxes_over e first last n)
  pub in_shell : IsInOwnShell first last e
  pub in_boxes : IsInOwnBoxes first last n e

-- they are the shells and boxes of the objects of a problem, and each object is in its own
abbrev pub AreOfProblem : Problem → Measured → Type 0
AreOfProblem problem found =
    AreTheirs problem.tracks problem.window.first.micros problem.window.last.micros (slot_count problem.window.first.micros problem.window.last.micros)
    found.shells.items found.boxes

-- For each new object the place that it has among old ones, where it has one: there the same stands.
pub record ArePlaces (old new : List PlainTrack) (places : List (Option ℕ)) : Type 0 where
  pub long : length places ≡ length new
  pub same : (i p : ℕ) (e : PlainTrack) → slice_get places i ≡ Some (Some p) → slice_get new i ≡ Some e → slice_get old p ≡ Some e
