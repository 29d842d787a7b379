use Rattle.std.proofs.Common.{ℕ, List, map, refl, subst}
use Rattle.std.specs.Prelude.{OnOk}
use Rattle.cj_case.specs.Problems.{plain_problem}
use Rattle.cj_cert.specs.Certificates.{plain_cell_line}
use Rattle.cj_status.specs.Steps.{Gives}
use Rattle.cj_outputs.specs.Checks.{AcceptedReport}
use Rattle.cj_outputs.specs.Outcome.{report_accepting}
use Rattle.cj_outputs.proofs.vouching.accept_report.Goals as goal

pub returns-in-None : goal.returns-in-None
returns-in-None g c = rw c.in-None.is (record { between = tt; read = λ is. absurd cc; told = refl; holds = tt })

pub returns-in-Some : goal.returns-in-Some
returns-in-Some g c =
    let case = plain_problem c.args.problem.now in
    let cells = map plain_cell_line c.args.cells.now in
    let accepted = c.accept_bytes.ensures in
    rw c.in-Some.is (record {
      between = accepted.between;
      read = accepted.read;
      told = subst (λ (bytes : List ℕ). Gives ⊥ (λ done. done) c.accept_bytes.result (report_accepting c.args.most_cells c.args.tells case cells bytes)) c.deref.ensures.value accepted.told;
      holds = subst (λ (bytes : List ℕ). OnOk c.accept_bytes.result (AcceptedReport c.args.tells case cells bytes)) c.deref.ensures.value accepted.holds;
    })
