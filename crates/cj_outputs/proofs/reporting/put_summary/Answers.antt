use Rattle.std.proofs.Common.{ℕ, ◌∙◌, List, [], ◌∷◌, Ok, ap, subst}
use Rattle.cj_cells.specs.Lists.{list_candidates}
use Rattle.cj_report.specs.Summary.{summary_of}
use Rattle.cj_outputs.specs.Findings.{case_in, ended, lines_of}
use Rattle.cj_outputs.specs.Outcome.{Leaves, summary_bytes, summary_output, uncovered_told}
use Rattle.cj_outputs.proofs.EndLemmas.{nothing_made}
use Rattle.cj_outputs.proofs.ReportTextLemmas.{added_behind}
use Rattle.cj_outputs.proofs.reporting.put_summary.Goals as goal

pub returns-clause-leaves : goal.returns-clause-leaves
returns-clause-leaves g c = λ old stood.
    let found = c.args.found.now in
    let summary = summary_bytes (case_in found) (list_candidates (case_in found)) in
    let told = uncovered_told found.wanted.tells (case_in found) in
    subst (λ (bytes : List ℕ). Leaves (ended c.put.result) (Ok (summary_output bytes ∷ [])) old (g.S.Shelf.outputs c.put.new.shelf))
    (added_behind summary (lines_of found.behind) told _ _ _ _ c.deref.ensures.value c.in_ok-push_coverage.ensures c.in_ok-push_behind.ensures
    (c.in_ok-summary.ensures ∙ ap summary_of c.requires.counts))
    (c.put.ensures.leaves old stood)

pub returns-in_err-summary : goal.returns-in_err-summary
returns-in_err-summary g c = nothing_made _ _ _ _ c.from_residual.ensures.1

pub returns-in_err-push_behind : goal.returns-in_err-push_behind
returns-in_err-push_behind g c = nothing_made _ _ _ _ c.from_residual-in_err-push_behind.ensures.1

pub returns-in_err-push_coverage : goal.returns-in_err-push_coverage
returns-in_err-push_coverage g c = nothing_made _ _ _ _ c.from_residual-in_err-push_coverage.ensures.1

pub returns-clause-comes : goal.returns-clause-comes
returns-clause-comes g c = c.put.ensures.comes

pub returns-clause-write : goal.returns-clause-write
returns-clause-write g c = c.put.ensures.write

pub returns-clause-later : goal.returns-clause-later
returns-clause-later g c = c.put.ensures.later
