-- Whether two interpolants are far throughout some ticks.
use Rattle.std.specs.Prelude.{◌≡◌, ℕ, Bool}
use Rattle.std.specs.List.{list_all}
use Rattle.cj_hermite.specs.Interpolant.{Curve}
use Rattle.cj_hermite.specs.Ready.{curve_ready}
use Rattle.cj_case.specs.Leaves.{same_kind}
use Rattle.cj_case.specs.declared.kind.Kind.TheVariants.{Far}
use Rattle.cj_bezier.specs.Halving.{leaves_between}
use Rattle.cj_bezier.specs.RootLeaves.{kind_between}
use Rattle.cj_bezier.specs.Verdicts.{cell_verdict}
use Rattle.cj_bezier.specs.declared.verdicts.Verdict.{Verdict}
use Rattle.cj_checker.specs.declared.root.Root.{Root}

-- the ticks from first to last of the objects a and b are halved until each part is of a kind, by a threshold in nm, and each is far
unfoldable pub are_far : ℕ → Curve → Curve → ℕ → ℕ → ℕ → ℕ → Bool
are_far thr c d a b first last = list_all (λ s. same_kind Far s.kind) (leaves_between (kind_between c d thr) a b first last)

-- it is the verdict on all ticks of a root
abbrev pub IsVerdictOf : Root → Verdict → Type 0
IsVerdictOf root verdict = verdict ≡ cell_verdict (curve_ready root.first) (curve_ready root.second) root.thr root.ticks.first.micros root.ticks.last.micros
