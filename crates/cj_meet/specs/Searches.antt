-- Searches: what is found of the closest approach so far, and what becomes of a part.
use Rattle.std.specs.Prelude.{◌≡◌, ◌⊎◌, ℕ, ◌+◌, ◌≤◌, true, false, Some}
use Rattle.cj_hermite.specs.Interpolant.{Curve, IsOver}
use Rattle.cj_case.specs.PlainProblems.{PlainProblem}
use Rattle.cj_hermite.specs.ObjectsAtTicks.{curve_at}
use Rattle.cj_bezier.specs.Gaps.{gap_terms, hull_gap}
use Rattle.cj_bezier.specs.Halving.{middle}
use Rattle.cj_case.specs.Leaves.{PlainLeaf}
use Rattle.cj_meet.specs.declared.approaches.Approach.{Approach}
use Rattle.cj_meet.specs.declared.looking.Seen.{Seen}
use Rattle.cj_meet.specs.declared.looking.Seen.TheVariants.{Settled, Halved}
use Rattle.cj_meet.specs.declared.runs.Waiting.{Waiting}
use Rattle.cj_meet.specs.Closest.{PlainApproach, approach_at}
use Rattle.cj_meet.specs.Flat.{is_flat}

abbrev pub plain_approach : Approach → PlainApproach
plain_approach p = record { tick = p.tick.micros; square = p.square }

-- p has a lesser bound than q, or the same and is no later
pub record NoWorse (p q : PlainApproach) : Type 0 where
  pub least : p.square ≤ q.square
  pub earliest : p.square ≡ q.square → p.tick ≤ q.tick

-- two interpolants that the objects of a leaf have at its first tick, and that give a place at each of its ticks
pub record HasInterpolants (case : PlainProblem) (s : PlainLeaf) : Type 0 where
  pub c : Curve
  pub d : Curve
  pub first : curve_at case s.a s.first ≡ Some c
  pub second : curve_at case s.b s.first ≡ Some d
  pub some : s.first ≤ s.last
  pub first_over : IsOver c s.first s.last
  pub second_over : IsOver d s.first s.last

-- the first half of a run, up to its middle tick, and the second
pub record AreRunHalves (run early late : Waiting) : Type 0 where
  pub begins : early.first ≡ run.first
  pub ends : early.last.micros ≡ middle run.first.micros run.last.micros
  pub goes_on : late.first.micros ≡ middle run.first.micros run.last.micros + 1
  pub closes : late.last ≡ run.last

-- an approach is this one, or an end of a run
abbrev pub IsOneOf : Curve → Curve → Waiting → PlainApproach → PlainApproach → Type 0
IsOneOf c d run best found = (found ≡ best) ⊎ ((found ≡ approach_at c d run.first.micros) ⊎ (found ≡ approach_at c d run.last.micros))

-- no tick of a run is nearer than this
abbrev pub NoneNearer : Curve → Curve → Waiting → PlainApproach → Type 0
NoneNearer c d run found = (m : ℕ) → run.first.micros ≤ m → m ≤ run.last.micros → NoWorse found (approach_at c d m)

-- a run is flat, and neither of its ends is nearer than this
pub record IsFlatAnd (c d : Curve) (run : Waiting) (found : PlainApproach) : Type 0 where
  pub flat : is_flat (gap_terms (hull_gap c d run.first.micros run.last.micros)) ≡ true
  pub first : NoWorse found (approach_at c d run.first.micros)
  pub last : NoWorse found (approach_at c d run.last.micros)

-- the ends of a run are no nearer than what was found
pub record IsSettled (c d : Curve) (run : Waiting) (best : PlainApproach) (found : Approach) : Type 0 where
  pub no_worse : NoWorse (plain_approach found) best
  pub one_of : IsOneOf c d run best (plain_approach found)
  pub done : NoneNearer c d run (plain_approach found) ⊎ IsFlatAnd c d run (plain_approach found)

-- a run is not flat, and these are its halves in either order
pub record IsHalved (c d : Curve) (run : Waiting) (best : PlainApproach) (found : Approach) (next other : Waiting) : Type 0 where
  pub no_worse : NoWorse (plain_approach found) best
  pub one_of : IsOneOf c d run best (plain_approach found)
  pub open_run : is_flat (gap_terms (hull_gap c d run.first.micros run.last.micros)) ≡ false
  pub halves : AreRunHalves run next other ⊎ AreRunHalves run other next

abbrev pub IfSettled : Seen → (Approach → Type 0) → Type 0
IfSettled (Settled found) P = P found
IfSettled (Halved found next other) P = Unit {0}

abbrev pub IfHalved : Seen → (Approach → Waiting → Waiting → Type 0) → Type 0
IfHalved (Settled found) P = Unit {0}
IfHalved (Halved found next other) P = P found next other
