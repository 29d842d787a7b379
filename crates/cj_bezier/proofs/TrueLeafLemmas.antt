-- What leaves that are true throughout tell of a tick of a pair, and that a tick which they hold in no near and in no undecided one is far.
use Rattle.std.proofs.Common.{◌≡◌, ℕ, ◌<◌, ◌≤◌, Bool, true, false, List, refl, subst, arith}
use Rattle.std.specs.Prelude.{All, Any}
use Rattle.cj_hermite.specs.Distance.{IsFar}
use Rattle.cj_case.specs.PlainProblems.{PlainProblem, threshold_of}
use Rattle.cj_case.specs.Primaries.{concerns}
use Rattle.cj_hermite.specs.ObjectsAtTicks.{IsCommonOf, OfObjectsAt}
use Rattle.cj_hermite.proofs.ObjectLemmas.{of_objects-wider}
use Rattle.cj_case.specs.declared.kind.Kind.{Kind}
use Rattle.cj_case.specs.declared.kind.Kind.TheVariants.{Far, Near, Undecided}
use Rattle.cj_case.specs.Leaves.{PlainLeaf, IsTickOf, Covers, LiesIn}
use Rattle.cj_bezier.specs.RootLeaves.{IsTrueThroughout}
use Rattle.cj_bezier.specs.Verdicts.{Holds}

-- a leaf within the window, of two objects in order with a primary, that is true throughout
pub record IsTrueLeaf (case : PlainProblem) (s : PlainLeaf) : Type 0 where
  pub ordered : s.a < s.b
  pub concerned : concerns case (s.a, s.b) ≡ true
  pub from : case.first ≤ s.first
  pub to : s.last ≤ case.last
  pub holds : IsTrueThroughout case s

-- a common tick of the objects a and b at which their distance is of this kind
pub record Tells (case : PlainProblem) (a b m : ℕ) (kind : Kind) : Type 0 where
  pub common : IsCommonOf case a b m
  pub holds : OfObjectsAt case a b m (λ c d. Holds kind c d (threshold_of case a b) m)

tells : (case : PlainProblem) (s : PlainLeaf) (m : ℕ) → IsTrueLeaf case s → s.first ≤ m → m ≤ s.last → Tells case s.a s.b m s.kind
tells case s m is from to =
    let here = is.holds m from to in
    record {
      common = record {
        ordered = is.ordered;
        concerned = is.concerned;
        after = omega (arith, is.from, from);
        before = omega (arith, is.to, to);
        nodes = of_objects-wider case s.a s.b m (λ c d. Holds s.kind c d (threshold_of case s.a s.b) m) (λ c d. Unit {0}) (λ c d h. tt) here;
      };
      holds = here;
    }

-- what a leaf tells, one of a list tells
pub tells_of : (case : PlainProblem) (ss : List PlainLeaf) (kind : Kind) (a b m : ℕ) → All (IsTrueLeaf case) ss → Any (LiesIn kind a b m) ss
    → Tells case a b m kind
tells_of case ss kind a b m all here =
    let s = here.1 in
    let lies = here.4 in
    let told = tells case s m (subst (λ (x : PlainLeaf). IsTrueLeaf case x) here.3 (all here.0 s here.2)) lies.covered.from lies.covered.to in
    subst (λ (k : Kind). Tells case a b m k) lies.covered.same
    (subst (λ (j : ℕ). Tells case a j m s.kind) lies.objects.1 (subst (λ (i : ℕ). Tells case i s.b m s.kind) lies.objects.0 told))

far_of : (case : PlainProblem) (ss : List PlainLeaf) (a b m : ℕ) → All (IsTrueLeaf case) ss → Any (IsTickOf a b m) ss
    → ¬ Any (LiesIn Near a b m) ss → ¬ Any (LiesIn Undecided a b m) ss → OfObjectsAt case a b m (λ c d. IsFar c d (threshold_of case a b) m)
far_of case ss a b m all tick near undecided = by_kind tick.1.kind refl
  where
    lies : (k : Kind) → tick.1.kind ≡ k → Any (LiesIn k a b m) ss
    lies k is =
        let covered : Covers k m tick.1 = record { same = is; from = tick.4.from; to = tick.4.to } in
        (tick.0, tick.1, tick.2, tick.3, record { objects = (tick.4.first_object, tick.4.second_object); covered = covered })

    by_kind : (k : Kind) → tick.1.kind ≡ k → OfObjectsAt case a b m (λ c d. IsFar c d (threshold_of case a b) m)
    by_kind Far is = (tells_of case ss Far a b m all (lies Far is)).holds
    by_kind Near is = absurd (near (lies Near is))
    by_kind Undecided is = absurd (undecided (lies Undecided is))

-- a tick of a candidate lies in a leaf, and at another the pair is far: so it is far where it lies in no near and in no undecided one
pub outside_of : (case : PlainProblem) (ss : List PlainLeaf) (a b m : ℕ) (candidate : Bool) → All (IsTrueLeaf case) ss
    → (candidate ≡ true → Any (IsTickOf a b m) ss)
    → (candidate ≡ false → OfObjectsAt case a b m (λ c d. IsFar c d (threshold_of case a b) m))
    → ¬ Any (LiesIn Near a b m) ss → ¬ Any (LiesIn Undecided a b m) ss → OfObjectsAt case a b m (λ c d. IsFar c d (threshold_of case a b) m)
outside_of case ss a b m true all complete far near undecided = far_of case ss a b m all (complete refl) near undecided
outside_of case ss a b m false all complete far near undecided = far refl
