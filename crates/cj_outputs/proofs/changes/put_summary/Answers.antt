use Rattle.std.proofs.Common.{◌≡◌, ℕ, ◌∙◌, List, [], ◌∷◌, length, Ok, ap, ap₂, sym, subst, arith}
use Rattle.std.proofs.lemmas.List.{length-map}
use Rattle.cj_track.specs.declared.track.Track.{Track}
use Rattle.cj_track.specs.Tracks.{plain_track}
use Rattle.cj_case.specs.Leaves.{plain_leaves}
use Rattle.cj_case.specs.Problems.{plain_problem}
use Rattle.cj_meet.specs.Encounters.{encounters_of, leaves_in}
use Rattle.cj_report.specs.Summary.{changed_summary}
use Rattle.cj_outputs.specs.Findings.{ended}
use Rattle.cj_outputs.specs.Outcome.{Leaves, summary_output, uncovered_told}
use Rattle.cj_outputs.proofs.EndLemmas.{nothing_made}
use Rattle.cj_outputs.proofs.ReportTextLemmas.{added}
use Rattle.cj_outputs.proofs.changes.put_summary.Goals as goal

pub returns-clause-leaves : goal.returns-clause-leaves
returns-clause-leaves g c = λ old stood.
    let changes = c.args.changes.now in
    let met = c.requires.met in
    let objects : length c.as_slice.result.now ≡ length (plain_problem changes.problem).tracks =
    ap (λ (ts : List Track). length ts) c.as_slice.ensures.value ∙ sym (length-map changes.problem.tracks plain_track) in
    let encounters : c.len-encounters.result ≡ length (encounters_of (plain_leaves changes.leaves.items)) =
    omega (arith, c.len-encounters.ensures, changes.met.encounters.ok.0, ap length met.encounters.groups, length-map changes.met.encounters.items (leaves_in (plain_leaves changes.leaves.items))) in
    subst (λ (bytes : List ℕ). Leaves (ended c.put.result) (Ok (summary_output bytes ∷ [])) old (g.S.Shelf.outputs c.put.new.shelf))
    (added _ (uncovered_told changes.tells (plain_problem changes.problem)) _ _ _ c.deref.ensures.value c.in_ok-push_coverage.ensures
    (c.in_ok-summary.ensures ∙ ap₂ (λ (n k : ℕ). changed_summary n k changes.kept) objects encounters))
    (c.put.ensures.leaves old stood)

pub returns-in_err-summary : goal.returns-in_err-summary
returns-in_err-summary g c = nothing_made _ _ _ _ c.from_residual.ensures.1

pub returns-in_err-push_coverage : goal.returns-in_err-push_coverage
returns-in_err-push_coverage g c = nothing_made _ _ _ _ c.from_residual-in_err-push_coverage.ensures.1

pub returns-clause-comes : goal.returns-clause-comes
returns-clause-comes g c = c.put.ensures.comes

pub returns-clause-write : goal.returns-clause-write
returns-clause-write g c = c.put.ensures.write

pub returns-clause-later : goal.returns-clause-later
returns-clause-later g c = c.put.ensures.later
