-- A sweep along an axis over the boxes of a slot, stripe by stripe.
use Rattle.std.specs.Prelude.{◌≡◌, ◌⊎◌, ℕ, ◌+◌, ◌*◌, ◌/◌, ◌<◌, ◌≤◌, min, max, Bool, true, false, ℤ, pos, ◌+ℤ◌, ◌-ℤ◌, ◌≤ℤ◌, List, All, map, length, Option, Some, slice_index}
use Rattle.std.specs.List.{AllPairs, Contains}
use Rattle.cj_case.specs.declared.pair.Pair.{Pair}
use Rattle.cj_case.specs.declared.problem.Problem.{Problem}
use Rattle.cj_case.specs.Pairs.{AreBoth, HasPair, objects_of}
use Rattle.cj_case.specs.PlainProblems.{PlainProblem}
use Rattle.cj_case.specs.Problems.{plain_problem}
use Rattle.cj_case.specs.declared.axis_box.AxisBox.{AxisBox}
use Rattle.cj_case.specs.declared.shells.Shell.{Shell}
use Rattle.cj_bezier.specs.Shells.{shell_in}
use Rattle.cj_case.specs.Boxes.{PlainBox, plain_boxes}
use Rattle.cj_bezier.specs.SlotBoxes.{reaches_in}
use Rattle.cj_bezier.specs.Squares.{from_zero}
use Rattle.cj_case.specs.Boxes as boxes
use Rattle.cj_cert.specs.declared.cert_lines.ShellLine.{ShellLine}
use Rattle.cj_checker.specs.declared.axis.Axis.{Axis}
use Rattle.cj_checker.specs.declared.axis.Axis.TheVariants as axes
use Rattle.cj_checker.specs.declared.layout.Layout.{Layout}
use Rattle.cj_checker.specs.declared.reach.Reach.{Reach}
use Rattle.cj_checker.specs.declared.reaches.Reaches.{Reaches}
use Rattle.cj_checker.specs.Keys.{candidate_with, looks}

-- each pair of a list is a candidate
abbrev pub AreCandidates : PlainProblem → List (Option Shell) → List (Option PlainBox) → List Pair → Type 0
AreCandidates case shells boxes pairs = All (λ pair. candidate_with case shells boxes (objects_of pair) ≡ true) pairs

-- the same, as a program keeps them
abbrev pub AreCandidatesBy : Problem → List ShellLine → List (Option AxisBox) → List Pair → Type 0
AreCandidatesBy problem shells boxes pairs = AreCandidates (plain_problem problem) (map (λ line. line.shell) shells) (plain_boxes boxes) pairs

-- a later list has only candidates where an earlier one has
abbrev pub StayCandidates : Problem → List ShellLine → List (Option AxisBox) → List Pair → List Pair → Type 0
StayCandidates problem shells boxes old new = AreCandidatesBy problem shells boxes old → AreCandidatesBy problem shells boxes new

-- from where to where an object reaches along an axis, by its shell and its box
abbrev pub side : Axis → Shell → PlainBox → boxes.Reach
side axes.X shell area = area.x
side axes.Y shell area = area.y
side axes.Z shell area = area.z
side axes.Radius shell area = record { least = pos shell.lo; most = pos shell.hi }

-- from where to where an object is entered that reaches so far
abbrev pub reach_of : PlainProblem → ℕ → boxes.Reach → Reach
reach_of case object x = record {
  low = x.least -ℤ pos (slice_index case.sizes object);
  high = x.most +ℤ pos (slice_index case.sizes object + case.threshold);
  object = object;
}

-- ---- stripes

-- the stripe in which a place lies: stripes of 1,000 km, 64 on each side of 0, of which the outermost hold all that lies further out
abbrev pub stripe_of : ℤ → ℕ
stripe_of place = min (from_zero (place +ℤ pos 64_000_000_000_000_000)) 127_999_999_999_999_999 / 1_000_000_000_000_000

-- the same where objects are cut into stripes, and else the only one
abbrev pub stripe_in : Bool → ℤ → ℕ
stripe_in true place = stripe_of place
stripe_in false place = 0

-- the axis across which the stripes of a sweep along an axis lie
abbrev pub across : Axis → Axis
across axes.X = axes.Y
across axes.Y = axes.Z
across axes.Z = axes.X
across axes.Radius = axes.Z

-- an entry that is moved to a stripe: along the axis of the sweep the stripes lie behind one another, further apart than anything reaches
abbrev pub moved : ℕ → Reach → Reach
moved stripe r = record {
  low = r.low +ℤ pos (stripe * 4_000_000_000_000_000_000);
  high = r.high +ℤ pos (stripe * 4_000_000_000_000_000_000);
  object = r.object;
}

-- an object that reaches so far across the stripes meets one of them
pub record MeetsStripe (striped : Bool) (x : Reach) (stripe : ℕ) : Type 0 where
  pub from : stripe_in striped x.low ≤ stripe
  pub upto : stripe ≤ max (stripe_in striped x.high) (stripe_in striped x.low)

-- an object with this shell and this box is entered in each stripe that it meets
abbrev pub IsEntered : PlainProblem → ℕ → Shell → PlainBox → Layout → List Reach → Type 0
IsEntered case object shell area layout reaches =
    (stripe : ℕ) → MeetsStripe layout.striped (reach_of case object (side (across layout.axis) shell area)) stripe
    → Contains reaches (moved stripe (reach_of case object (side layout.axis shell area)))

-- an object with a shell and a box is entered
abbrev pub HasReach : PlainProblem → List (Option Shell) → List (Option PlainBox) → Layout → List Reach → ℕ → Type 0
HasReach case shells areas layout reaches object =
    (shell : Shell) (area : PlainBox) → shell_in shells object ≡ Some shell → reaches_in areas object ≡ Some area → IsEntered case object shell area layout reaches

-- the same, as a program keeps them
abbrev pub HasReachBy : Problem → List ShellLine → List (Option AxisBox) → Layout → List Reach → ℕ → Type 0
HasReachBy problem shells boxes layout reaches object = HasReach (plain_problem problem) (map (λ line. line.shell) shells) (plain_boxes boxes) layout reaches object

-- ---- entries

-- none begins before one that stands earlier
abbrev pub IsInOrder : List Reach → Type 0
IsInOrder reaches = AllPairs (λ r s. r.low ≤ℤ s.low) reaches

-- the objects of each two entries of which the second begins where the first is are found, where they are a candidate
abbrev pub AreMet : PlainProblem → List (Option Shell) → List (Option PlainBox) → List Reach → List Reach → List Pair → Type 0
AreMet case shells areas some others pairs = (r s : Reach) → Contains some r → Contains others s → r.low ≤ℤ s.low → s.low ≤ℤ r.high
    → (a b : ℕ) → a < b → AreBoth r.object s.object a b → candidate_with case shells areas (a, b) ≡ true → HasPair pairs a b

-- the same, as a program keeps them
abbrev pub AreMetBy : Problem → List ShellLine → List (Option AxisBox) → List Reach → List Reach → List Pair → Type 0
AreMetBy problem shells boxes some others pairs = AreMet (plain_problem problem) (map (λ line. line.shell) shells) (plain_boxes boxes) some others pairs

-- each object exists
abbrev pub Exist : Problem → List Reach → Type 0
Exist problem reaches = All (λ reach. reach.object < length problem.tracks) reaches

-- two objects are entered, the first among those of some rows, and each begins at most where the other ends
pub record Meet (rows others : List Reach) (a b : ℕ) : Type 0 where
  pub first : Reach
  pub second : Reach
  pub first_there : Contains rows first
  pub second_there : Contains rows second ⊎ Contains others second
  pub first_is : first.object ≡ a
  pub second_is : second.object ≡ b
  pub there : first.low ≤ℤ second.high
  pub back : second.low ≤ℤ first.high

-- the entries of the objects of some rows, and of those behind, are in order, and those of each candidate of the rows meet
pub record AreLaidOut (problem : Problem) (shells : List ShellLine) (boxes : List (Option AxisBox)) (first end : ℕ) (reaches : Reaches) : Type 0 where
  pub rows_exist : Exist problem reaches.rows.items
  pub others_exist : Exist problem reaches.others.items
  pub rows_order : IsInOrder reaches.rows.items
  pub others_order : IsInOrder reaches.others.items
  pub meet : (a b : ℕ) → first ≤ a → a < end → a < b → looks problem shells boxes (a, b) ≡ true → Meet reaches.rows.items reaches.others.items a b
