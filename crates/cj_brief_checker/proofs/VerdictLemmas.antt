-- What the verdict on all ticks of a root says of a cell that has them all.
use Rattle.std.proofs.Common.{◌≡◌, true, Some, ap, sym, subst, ◌∙◌}
use Rattle.cj_cert.specs.declared.cert_lines.CellLine.{CellLine}
use Rattle.cj_hermite.specs.Ready.{curve_ready}
use Rattle.cj_bezier.specs.Gaps.{gap_terms, hull_gap}
use Rattle.cj_bezier.specs.Verdicts.{cell_verdict, kind_of, supported}
use Rattle.cj_bezier.specs.declared.verdicts.Verdict.{Verdict}
use Rattle.cj_bezier.proofs.JudgeLemmas.{supported_kind}
use Rattle.cj_checker.specs.Tiling.{is_shown}
use Rattle.cj_checker.specs.declared.root.Root.{Root}
use Rattle.cj_brief_checker.specs.FarThroughout.{IsVerdictOf}

pub shown_by_verdict : (root : Root) (cell : CellLine) (verdict : Verdict) → IsVerdictOf root verdict → kind_of verdict ≡ Some cell.kind
    → cell.first.micros ≡ root.ticks.first.micros → cell.last.micros ≡ root.ticks.last.micros → is_shown root cell ≡ true
unfolding cell_verdict
shown_by_verdict root cell verdict is says from to =
    let c = curve_ready root.first in
    let d = curve_ready root.second in
    (λ i. supported (gap_terms (hull_gap c d (from i) (to i))) root.thr cell.kind)
    ∙ supported_kind (gap_terms (hull_gap c d root.ticks.first.micros root.ticks.last.micros)) root.thr cell.kind (sym (ap kind_of is) ∙ says)
