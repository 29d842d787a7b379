use Rattle.std.proofs.Common.{List, map, sym, subst, arith}
use Rattle.cj_case.specs.Problems.{plain_problem}
use Rattle.cj_case.specs.Boxes.{plain_boxes}
use Rattle.cj_cert.specs.declared.cert_lines.ShellLine.{ShellLine}
use Rattle.cj_checker.specs.declared.reach.Reach.{Reach}
use Rattle.cj_checker.specs.Sweeps.{AreCandidates, Meet}
use Rattle.cj_checker.proofs.SweepLemmas.{all_found}
use Rattle.cj_checker.proofs.sweep.Sweep.find.Goals as goal

pub returns-clause-candidate : goal.returns-clause-candidate
returns-clause-candidate c =
    let case = plain_problem c.args.problem.now in
    let shells = map (λ (line : ShellLine). line.shell) c.args.shells.now in
    let areas = plain_boxes c.args.boxes.now in
    c.in_ok-append_met-3.ensures.candidate (c.in_ok-append_met-2.ensures.candidate (c.in_ok-append_met.ensures.candidate
    (subst (AreCandidates case shells areas) (sym c.clear.ensures.items) (λ k d short. absurd (omega (arith, short))))))

pub returns-clause-found : goal.returns-clause-found
returns-clause-found c a b low high up is =
    let case = plain_problem c.args.problem.now in
    let shells = map (λ (line : ShellLine). line.shell) c.args.shells.now in
    let areas = plain_boxes c.args.boxes.now in
    let rows = c.as_slice-rows.result.now in
    let others = c.as_slice-others.result.now in
    all_found case shells areas rows others c.append_met.new.pairs.items c.append_met-2.new.pairs.items c.append_met-3.new.pairs.items a b
    c.in_ok-append_met.ensures.found c.in_ok-append_met-2.ensures.found c.in_ok-append_met-3.ensures.found c.in_ok-append_met-2.ensures.kept c.in_ok-append_met-3.ensures.kept
    (subst (λ (rs : List Reach). Meet rs others a b) (sym c.as_slice-rows.ensures.value)
    (subst (λ (os : List Reach). Meet c.lay_out.new.reaches.rows.items os a b) (sym c.as_slice-others.ensures.value) (c.in_ok-lay_out.ensures.meet a b low high up is)))
    up is
