-- What shells and boxes that are given say of the objects of a case, and that pairs which are no candidates are far.
use Rattle.std.specs.Prelude.{◌≡◌, ℕ, ◌<◌, ◌≤◌, Bool, List, Option, Some, None, IfSome, false, slice_get}
use Rattle.cj_track.specs.PlainTracks.{PlainTrack}
use Rattle.cj_case.specs.PlainProblems.{PlainProblem, threshold_of}
use Rattle.cj_hermite.specs.ObjectsAtTicks.{IsCommonOf, OfObjectsAt}
use Rattle.cj_hermite.specs.Distance.{IsFar}
use Rattle.cj_hermite.specs.Pieces.{piece_holding, curve_of_piece}
use Rattle.cj_case.specs.Slots.{slot_first, slot_last, slot_of, slot_count}
use Rattle.cj_hermite.specs.Walks.{HasNone}
use Rattle.cj_case.specs.declared.shells.Shell.{Shell}
use Rattle.cj_bezier.specs.Shells.{IsRadiusWithin, shell_in}
use Rattle.cj_case.specs.Boxes.{PlainBox}
use Rattle.cj_bezier.specs.SlotBoxes.{IsPlaceIn, reaches_in}

-- from one tick to another this shell holds the distance from the origin, and there is one where there is a state
pub record IsInShell (from to : ℕ) (e : PlainTrack) (shell : Option Shell) : Type 0 where
  pub none : shell ≡ None → HasNone e from to
  pub holds : (s : Shell) → shell ≡ Some s → (m : ℕ) → from ≤ m → m ≤ to → IfSome (piece_holding e m) (λ x. IsRadiusWithin (curve_of_piece x) m s.lo s.hi)

-- from one tick to another this box holds the place, and there is one where there is a state
pub record IsInBox (from to : ℕ) (e : PlainTrack) (area : Option PlainBox) : Type 0 where
  pub none : area ≡ None → HasNone e from to
  pub holds : (r : PlainBox) → area ≡ Some r → (m : ℕ) → from ≤ m → m ≤ to → IfSome (piece_holding e m) (λ x. IsPlaceIn (curve_of_piece x) m r)

-- each object of a case is in its shell, by these shells
abbrev pub AreInShells : PlainProblem → List (Option Shell) → Type 0
AreInShells case shells = (i : ℕ) (e : PlainTrack) → slice_get case.tracks i ≡ Some e → IsInShell case.first case.last e (shell_in shells i)

-- each object of a case is in each slot in its box, by these boxes in each slot
abbrev pub AreInBoxes : PlainProblem → (ℕ → List (Option PlainBox)) → Type 0
AreInBoxes case boxes = (slot i : ℕ) (e : PlainTrack) → slot < slot_count case.first case.last → slice_get case.tracks i ≡ Some e
    → IsInBox (slot_first case.first slot) (slot_last case.first case.last slot) e (reaches_in (boxes slot) i)

-- at each common tick of objects that are no candidates in its slot they are far
abbrev pub OthersAreFar : PlainProblem → (ℕ → ℕ → ℕ → Bool) → Type 0
OthersAreFar case candidate = (a b m : ℕ) → IsCommonOf case a b m → candidate a b (slot_of case.first m) ≡ false
    → OfObjectsAt case a b m (λ c d. IsFar c d (threshold_of case a b) m)
