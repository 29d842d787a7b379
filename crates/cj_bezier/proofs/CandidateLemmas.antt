-- A candidate is of a pair that is looked at.
use Rattle.std.proofs.Common.{◌≡◌, ℕ, true, List, Option}
use Rattle.std.specs.Cmp.{first_so}
use Rattle.cj_case.specs.Boxes.{PlainBox}
use Rattle.cj_case.specs.PlainProblems.{PlainProblem, threshold_of}
use Rattle.cj_case.specs.Primaries.{concerns}
use Rattle.cj_case.specs.declared.shells.Shell.{Shell}
use Rattle.cj_bezier.specs.Candidates.{boxes_in, candidate_by, is_candidate, shells_of}
use Rattle.cj_bezier.specs.Shells.{keeps, keeps_between}
use Rattle.cj_bezier.specs.SlotBoxes.{touch_between}

-- by whatever shells and boxes
pub looked_at : (case : PlainProblem) (shells : List (Option Shell)) (boxes : ℕ → List (Option PlainBox)) (a b slot : ℕ) → candidate_by case shells boxes a b slot ≡ true → concerns case (a, b) ≡ true
looked_at case shells boxes a b slot is =
    first_so (concerns case (a, b)) (keeps (threshold_of case a b) shells (a, b))
    (first_so (keeps_between case.primaries case.threshold case.sizes shells (a, b)) (touch_between case.threshold case.sizes (boxes slot) (a, b)) is)

-- by those of its objects
pub candidate_looked_at : (case : PlainProblem) (a b slot : ℕ) → is_candidate case a b slot ≡ true → concerns case (a, b) ≡ true
unfolding is_candidate
candidate_looked_at case a b slot is = looked_at case (shells_of case) (boxes_in case) a b slot is
