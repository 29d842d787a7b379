use Rattle.std.proofs.Common.{ap, sym, ◌∙◌, ◌&&◌, Bool, map}
use Rattle.cj_case.specs.Boxes.{plain_boxes}
use Rattle.cj_case.specs.Primaries.{concerns}
use Rattle.cj_case.specs.Pairs.{objects_of}
use Rattle.cj_case.specs.PlainProblems.{threshold_of}
use Rattle.cj_case.specs.Problems.{plain_problem}
use Rattle.cj_bezier.specs.Shells.{keeps}
use Rattle.cj_bezier.specs.SlotBoxes.{touch_between}
use Rattle.cj_cert.specs.declared.cert_lines.ShellLine.{ShellLine}
use Rattle.cj_checker.proofs.BothLemmas.{both_first}
use Rattle.cj_checker.proofs.candidate.is_candidate.Goals as goal

pub returns-then-concern : goal.returns-then-concern
returns-then-concern c =
    let case = plain_problem c.args.problem.now in
    let shells = map (λ (line : ShellLine). line.shell) c.args.shells.now in
    let pair = objects_of c.args.pair in
    let close = keeps (threshold_of case pair.0 pair.1) shells pair in
    let touch = touch_between case.threshold case.sizes (plain_boxes c.args.boxes.now) pair in
    c.are_close.ensures
    ∙ ap (λ (b : Bool). b && (close && touch)) (sym c.if-concern.true ∙ c.concern.ensures)
    ∙ both_first (concerns case pair) close touch

pub returns-else-concern : goal.returns-else-concern
returns-else-concern c =
    let case = plain_problem c.args.problem.now in
    let shells = map (λ (line : ShellLine). line.shell) c.args.shells.now in
    let pair = objects_of c.args.pair in
    let close = keeps (threshold_of case pair.0 pair.1) shells pair in
    let touch = touch_between case.threshold case.sizes (plain_boxes c.args.boxes.now) pair in
    c.if-concern.false
    ∙ ap (λ (b : Bool). (b && close) && touch) (sym c.if-concern.false ∙ c.concern.ensures)
