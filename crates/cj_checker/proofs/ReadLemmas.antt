-- Lines of boxes that are read, object by object.
use Rattle.std.proofs.Common.{◌≡◌, ℕ, ◌+◌, ◌<◌, true, false, List, [], ◌∷◌, length, drop, Option, Some, None, refl, ap, ◌∙◌, arith}
use Rattle.std.specs.Prelude.{IfNone, IfSome, is_some, slice_get}
use Rattle.cj_track.specs.PlainTracks.{PlainTrack}
use Rattle.cj_case.specs.PlainProblems.{PlainProblem}
use Rattle.cj_cert.specs.Certificates.{PlainBoxLine}
use Rattle.cj_checker.specs.BoxesRead.{fails_behind}
use Rattle.cj_checker.specs.declared.boxes_read.BoxesRead.{BoxesRead}
use Rattle.cj_formats.specs.declared.check_cause.CheckCause.TheVariants.{BoxOf}
use Rattle.cj_checker.specs.First.{failed, boxes_from, Failure}
use Rattle.cj_checker.specs.Places.{slots_from, places_from}
use Rattle.cj_checker.proofs.BoxLemmas.{boxes_missing, boxes_done, boxes_left}
use Rattle.cj_checker.proofs.PlaceLemmas.{first_place, next_object, same_places}
use Rattle.cj_checker.proofs.UnfitLemmas.{dropped, no_more}

-- ---- the lines of an object

-- the lines from one on, against the places from a slot of an object on
abbrev pub from_slot : PlainProblem → ℕ → List PlainBoxLine → ℕ → ℕ → ℕ → Option Failure
from_slot case line boxes k object slot = boxes_from case (line + k) (places_from case object slot) (drop k boxes)

-- the same, by a later slot that is the first with a state
pub later_slot : (case : PlainProblem) (line : ℕ) (boxes : List PlainBoxLine) (k object slot found : ℕ) (e : PlainTrack) → slice_get case.tracks object ≡ Some e
    → slots_from case e slot ≡ slots_from case e found → from_slot case line boxes k object slot ≡ from_slot case line boxes k object found
later_slot case line boxes k object slot found e is same = ap (λ (places : List (ℕ × ℕ)). boxes_from case (line + k) places (drop k boxes)) (same_places case object slot found e is same)

-- the same, by the next object, where no slot is left
pub next_slots : (case : PlainProblem) (line : ℕ) (boxes : List PlainBoxLine) (k object slot : ℕ) (e : PlainTrack) → slice_get case.tracks object ≡ Some e
    → slots_from case e slot ≡ [] → from_slot case line boxes k object slot ≡ from_slot case line boxes k (object + 1) 0
next_slots case line boxes k object slot e is none = ap (λ (places : List (ℕ × ℕ)). boxes_from case (line + k) places (drop k boxes)) (next_object case object slot e is none)

-- behind the last line: whether a slot is left
pub lines_end : (case : PlainProblem) (line : ℕ) (boxes : List PlainBoxLine) (k object slot : ℕ) (e : PlainTrack) (r : Option ℕ) → slice_get case.tracks object ≡ Some e
    → slice_get boxes k ≡ None → IfNone r (slots_from case e slot ≡ []) → IfSome r (λ found. slots_from case e slot ≡ slots_from case e found)
    → IfSome r (λ found. slots_from case e found ≡ found ∷ slots_from case e (found + 1))
    → from_slot case line boxes k object slot ≡ fails_behind case line (places_from case (object + 1) 0) boxes (record { passed = k; failed = is_some r })
lines_end case line boxes k object slot e None is past none same first = next_slots case line boxes k object slot e is none
lines_end case line boxes k object slot e (Some found) is past none same first =
    boxes_missing case line k (places_from case object slot) boxes (object, found) (places_from case object (found + 1)) past
    (same_places case object slot found e is same ∙ first_place case object found found e is first)

-- ---- behind the last object

-- the next line fails
pub next_fails : (case : PlainProblem) (line : ℕ) (left : List (ℕ × ℕ)) (boxes : List PlainBoxLine) (read : BoxesRead) → read.failed ≡ true → fails_behind case line left boxes read ≡ failed (line + read.passed) BoxOf
next_fails case line left boxes read fails = rw fails refl

-- a line is left where no place is
pub line_left : (case : PlainProblem) (line : ℕ) (boxes : List PlainBoxLine) (read : BoxesRead) → read.failed ≡ false → read.passed < length boxes
    → fails_behind case line [] boxes read ≡ failed (line + read.passed) BoxOf
line_left case line boxes read passes lt = rw passes (go (slice_get boxes read.passed) refl)
  where
    go : (o : Option PlainBoxLine) → slice_get boxes read.passed ≡ o → boxes_from case (line + read.passed) [] (drop read.passed boxes) ≡ failed (line + read.passed) BoxOf
    go None is = let past = no_more boxes read.passed is in absurd (omega arith)
    go (Some b) is = ap (boxes_from case (line + read.passed) []) (dropped boxes read.passed b is) ∙ boxes_left case (line + read.passed) b (drop (read.passed + 1) boxes)

-- no line is left, and no place
pub none_left : (case : PlainProblem) (line : ℕ) (boxes : List PlainBoxLine) (read : BoxesRead) → read.failed ≡ false → slice_get boxes read.passed ≡ None
    → fails_behind case line [] boxes read ≡ None
none_left case line boxes read passes is = rw passes (boxes_done case line read.passed [] boxes is refl)
