-- The cells of an accepted certificate split the common ticks of every pair.
use Rattle.std.proofs.Common.{◌≡◌, ℕ, ◌^◌, ◌≤◌, true, sym, subst, arith}
use Rattle.std.specs.Prelude.{All, Any}
use Rattle.cj_interval.proofs.ListLemmas.{Each, Each-both, All-from_each, Any-from_exists}
use Rattle.cj_case.specs.PlainProblems.{PlainProblem}
use Rattle.cj_case.specs.Primaries.{concerns}
use Rattle.cj_hermite.specs.ObjectsAtTicks.{number_at, IsCommonOf}
use Rattle.cj_case.specs.Cells.{PlainCell}
use Rattle.cj_hermite.specs.Roots.{roots_of}
use Rattle.cj_case.specs.Slots.{slot_of}
use Rattle.cj_hermite.proofs.CurveLemmas.{some_both}
use Rattle.cj_hermite.proofs.ObjectLemmas.{numbers_exist, second_exists}
use Rattle.cj_hermite.proofs.RootLemmas.{IsRootOf, Each-admitted, Each-roots, Exists-roots}
use Rattle.cj_case.specs.declared.kind.Kind.TheVariants.{Near, Undecided}
use Rattle.cj_bezier.specs.Enclosed.{OthersAreFar}
use Rattle.cj_case.specs.Leaves.{PlainLeaf, IsTickOf}
use Rattle.cj_bezier.specs.Tiles.{IsLeaf}
use Rattle.cj_bezier.proofs.CandidateLemmas.{looked_at}
use Rattle.cj_bezier.proofs.FarLemmas.{others_far}
use Rattle.cj_bezier.proofs.TrueLeafLemmas.{IsTrueLeaf, tells_of, outside_of}
use Rattle.cj_cert.specs.Accepted.{IsSupported, Accepted}
use Rattle.cj_cert.specs.Certificates.{PlainCertificate}
use Rattle.cj_cert.specs.Listed.{boxes_listed, shells_listed, is_candidate_listed}
use Rattle.cj_cert.specs.Splits.{CellsSplit}
use Rattle.cj_cert.proofs.ListedLemmas.{AreAllInTime, in_shells, in_boxes}
use Rattle.cj_cert.proofs.TiledLemmas.{each_tiled, some_tiled, true_cell}

-- a root of a pair with a primary
abbrev pub IsLookedAt : PlainProblem → PlainCell → Type 0
IsLookedAt case r = IsRootOf case r × (concerns case (r.a, r.b) ≡ true)

pub true_leaf : (case : PlainProblem) → AreAllInTime case → 10 ^ 9 ≤ case.threshold → (r : PlainCell) (s : PlainLeaf) → IsLookedAt case r
    → IsLeaf (IsSupported case) r.a r.b r.first r.last s → IsTrueLeaf case s
true_leaf case time big r s is leaf =
    let of_case = is.0 in
    let root = of_case.root in
    record {
      ordered = omega (arith, of_case.ordered, leaf.first_object, leaf.second_object);
      concerned =
          subst (λ (x : ℕ). concerns case (x, s.b) ≡ true) (sym leaf.first_object)
          (subst (λ (y : ℕ). concerns case (r.a, y) ≡ true) (sym leaf.second_object) is.1);
      from = omega (arith, root.from, leaf.from);
      to = omega (arith, root.to, leaf.to);
      holds = true_cell case r s time big of_case leaf;
    }

-- a common tick of a candidate lies in a cell
complete : (case : PlainProblem) (c : PlainCertificate) → Accepted case c → (a b m : ℕ) → IsCommonOf case a b m → is_candidate_listed case c a b (slot_of case.first m) ≡ true
    → Any (IsTickOf a b m) c.cells
complete case c accepted a b m common is =
    let numbers = numbers_exist case a b m common.nodes in
    Any-from_exists (IsTickOf a b m) c.cells
    (some_tiled (IsSupported case) a b m (roots_of (is_candidate_listed case c) case) c.cells accepted.cells
    (Exists-roots (is_candidate_listed case c) case a b m common.ordered (second_exists case a b m common.nodes) common.after common.before is
    (some_both (number_at case a m) (number_at case b m) numbers.0 numbers.1)))

-- what is no candidate is far
far : (case : PlainProblem) (c : PlainCertificate) → AreAllInTime case → Accepted case c → OthersAreFar case (is_candidate_listed case c)
unfolding is_candidate_listed
far case c time accepted = others_far case (shells_listed c) (boxes_listed c) (in_shells case c time accepted.shells) (in_boxes case c time accepted.objects accepted.boxes)

-- the roots of the candidates are of pairs with a primary
looked_at_roots : (case : PlainProblem) (c : PlainCertificate) → Each (IsLookedAt case) (roots_of (is_candidate_listed case c) case)
unfolding is_candidate_listed
looked_at_roots case c =
    Each-both (IsRootOf case) (λ r. concerns case (r.a, r.b) ≡ true) (roots_of (is_candidate_listed case c) case) (Each-roots (is_candidate_listed case c) case)
    (Each-admitted (λ a b. concerns case (a, b) ≡ true) (is_candidate_listed case c) case (looked_at case (shells_listed c) (boxes_listed c)))

pub splits : (case : PlainProblem) (c : PlainCertificate) → AreAllInTime case → 10 ^ 9 ≤ case.threshold → Accepted case c → CellsSplit case c.cells
splits case c time big accepted =
    let all : All (IsTrueLeaf case) c.cells =
    All-from_each (IsTrueLeaf case) c.cells
    (each_tiled (IsSupported case) (IsTrueLeaf case) (IsLookedAt case) (true_leaf case time big)
    (roots_of (is_candidate_listed case c) case) c.cells accepted.cells (looked_at_roots case c)) in
    record {
      near = λ a b m here. let told = tells_of case c.cells Near a b m all here in (told.common, told.holds);
      undecided = λ a b m here. let told = tells_of case c.cells Undecided a b m all here in (told.common, told.holds);
      outside = λ a b m common near undecided.
          outside_of case c.cells a b m (is_candidate_listed case c a b (slot_of case.first m)) all
          (complete case c accepted a b m common) (far case c time accepted a b m common) near undecided;
    }
