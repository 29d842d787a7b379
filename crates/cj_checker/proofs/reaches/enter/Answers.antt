use Rattle.std.proofs.Common.{◌≤◌, map, sym, ◌∙◌, arith, below_more}
use Rattle.cj_case.specs.Problems.{plain_problem}
use Rattle.cj_case.specs.Boxes.{plain_boxes}
use Rattle.cj_cert.specs.declared.cert_lines.ShellLine.{ShellLine}
use Rattle.cj_checker.specs.Sweeps.{HasReach, moved, reach_of, side}
use Rattle.cj_checker.proofs.RoundLemmas.{shell_on}
use Rattle.cj_checker.proofs.SweepLemmas.{area_read}
use Rattle.cj_checker.proofs.reaches.enter.Goals as goal

pub loop-object-preserved : goal.loop-object-preserved
loop-object-preserved c =
    let i = c.loop-object.invariant in
    let told = c.in_ok-enter_object.ensures in
    let case = plain_problem c.args.problem.now in
    let shells = map (λ (line : ShellLine). line.shell) c.args.shells.now in
    let areas = plain_boxes c.args.boxes.now in
    let layout = c.args.layout in
    let object = c.loop-object.object in
    record {
      exist = told.exist i.exist;
      entered = below_more (λ k. c.args.first ≤ k → HasReach case shells areas layout c.enter_object.new.reaches.items k) object
          (λ k lt low own area h is stripe meets.
          told.kept (moved stripe (reach_of case k (side layout.axis own area))) (i.entered k lt low own area h is stripe meets))
          (λ low own area h is.
          told.entered own area
          (sym (shell_on c.args.shells.now object _ (omega arith)) ∙ h)
          (sym (area_read c.args.boxes.now object c.index-boxes-at.result (omega arith) c.index-boxes-at.is) ∙ is));
    }

pub returns-clause-entered : goal.returns-clause-entered
returns-clause-entered c object low high own area h is = c.loop-object.invariant.entered object (omega arith) low own area h is
