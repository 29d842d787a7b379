-- What the cells of an accepted certificate say of each common tick of each pair.
use Rattle.std.specs.Prelude.{ℕ, List, Any}
use Rattle.cj_hermite.specs.Distance.{IsNear, IsFar, IsInBand}
use Rattle.cj_case.specs.PlainProblems.{PlainProblem, threshold_of}
use Rattle.cj_hermite.specs.ObjectsAtTicks.{IsCommonOf, OfObjectsAt}
use Rattle.cj_case.specs.declared.kind.Kind.TheVariants.{Near, Undecided}
use Rattle.cj_case.specs.Leaves.{PlainLeaf, LiesIn}
use Rattle.cj_cert.specs.Accepted.{Accepted}
use Rattle.cj_cert.specs.Certificates.{PlainCertificate}

-- these cells split the common ticks of every pair of objects a and b
pub record CellsSplit (case : PlainProblem) (cells : List PlainLeaf) : Type 0 where
  -- at each tick of a near cell the distance is at most the pair's threshold
  pub near : (a b m : ℕ) → Any (LiesIn Near a b m) cells → IsCommonOf case a b m × OfObjectsAt case a b m (λ c d. IsNear c d (threshold_of case a b) m)
  -- at each tick of an undecided cell it is within one millimetre of it
  pub undecided : (a b m : ℕ) → Any (LiesIn Undecided a b m) cells → IsCommonOf case a b m × OfObjectsAt case a b m (λ c d. IsInBand c d (threshold_of case a b) m)
  -- at a common tick that is in neither it is more
  pub outside : (a b m : ℕ) → IsCommonOf case a b m → ¬ Any (LiesIn Near a b m) cells → ¬ Any (LiesIn Undecided a b m) cells
      → OfObjectsAt case a b m (λ c d. IsFar c d (threshold_of case a b) m)

-- whatever certificate is accepted for a problem, its cells split the common ticks
abbrev pub AcceptedSplits : PlainProblem → Type 0
AcceptedSplits case = (c : PlainCertificate) → Accepted case c → CellsSplit case c.cells
