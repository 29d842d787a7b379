use Rattle.std.proofs.Common.{◌∙◌, Ok, List, ap, sym, arith}
use Rattle.std.proofs.lemmas.Result.{err_from_is_err_and}
use Rattle.cj_case.specs.Problems.{plain_problem}
use Rattle.cj_case.specs.Leaves.{PlainLeaf}
use Rattle.cj_report.specs.Summary.{kept_line}
use Rattle.cj_outputs.specs.declared.findings.Behind.{Behind}
use Rattle.cj_outputs.specs.Findings.{lines_of}
use Rattle.cj_screen.proofs.ReportLemmas.{never_read}
use Rattle.cj_screen.proofs.RescreenLemmas.{again_stops, again_told, summary_told}
use Rattle.cj_screen.proofs.rescreening.rescreen.Goals as goal

pub refine_again-requires-clause-first : goal.refine_again-requires-clause-first
refine_again-requires-clause-first g c _ _ = sym c.args.updating.first

pub refine_again-requires-clause-last : goal.refine_again-requires-clause-last
refine_again-requires-clause-last g c _ _ = sym c.args.updating.last

pub refine_again-requires-clause-threshold : goal.refine_again-requires-clause-threshold
refine_again-requires-clause-threshold g c _ _ = sym c.args.updating.threshold

pub lines_of-lines-requires : goal.lines_of-lines-requires
lines_of-lines-requires g c = omega (arith, c.in_ok-again.ensures.refined.splits)

pub tell-requires-clause-found : goal.tell-requires-clause-found
tell-requires-clause-found g c _ _ = c.lines_of-lines.ensures (plain_problem c.args.updating.new) c.in_ok-again.ensures.refined c.in_ok-again.ensures.ticks

pub returns : goal.returns
returns g c =
    let old = plain_problem c.args.updating.base in
    let new = plain_problem c.args.updating.new in
    let again = c.in_ok-again.ensures in
    let told = c.in_ok-found.ensures in
    let within = again.told ∙ ap (λ (ss : List PlainLeaf). Ok ss) again.refined.leaves in
    let same = ap plain_problem told.same in
    let lines = ap (λ (b : Behind). lines_of b) told.behind ∙ ap kept_line again.kept in
    record {
      between = tt;
      read = λ is. absurd cc;
      told = λ origin. again_told c.args.wanted origin old new c.in_ok-found.found within same told.wanted lines told.found;
      found = told.found;
      reports = told.reports;
      summary = summary_told c.args.wanted _ new c.in_ok-found.found same told.wanted lines told.found;
    }

pub returns-in_err-found : goal.returns-in_err-found
returns-in_err-found g c =
    let p = err_from_is_err_and c.from_residual-in_err-found.result c.from_residual-in_err-found.ensures.1 in
    rw (p.1, p.2) (record { between = tt; read = λ is. absurd cc; told = λ origin. tt; found = tt; reports = λ settings tells. tt; summary = tt })

pub returns-in_err-again : goal.returns-in_err-again
returns-in_err-again g c =
    let s = c.in_err-again.field-0.0 in
    let told = c.in_err-again.ensures.told in
    let p = err_from_is_err_and c.from_residual.result c.from_residual.ensures.1 in
    rw (p.1, p.2) (record {
      between = c.in_err-again.ensures.between;
      read = λ is. never_read s _ told is;
      told = λ origin. again_stops c.args.wanted origin (plain_problem c.args.updating.base) (plain_problem c.args.updating.new) s told;
      found = tt;
      reports = λ settings tells. tt;
      summary = tt;
    })
