use Rattle.std.proofs.Common.{arith, sym, ◌∙◌}
use Rattle.cj_bezier.specs.SlotBoxes.{both_touch}
use Rattle.cj_case.specs.Boxes.{plain_box}
use Rattle.std.specs.Prelude.{option_map, ◌&&◌}
use Rattle.cj_case.specs.Problems.{plain_problem}
use Rattle.cj_checker.proofs.RoundLemmas.{box_in, candidate_by, not_kept, shell_on}
use Rattle.cj_checker.proofs.candidate.are_close.Goals as goal

pub returns-then-are_kept : goal.returns-then-are_kept
returns-then-are_kept c =
    let shells = c.args.shells.now in
    let boxes = c.args.boxes.now in
    let thr = c.pair_threshold-thr.result in
    let x = c.index-boxes-a.result in
    let y = c.index-boxes-b.result in
    let before = c.args.pair.ordered in
    c.both_touch.ensures
    ∙ (λ j. c.if-are_kept.ensures j && both_touch thr (option_map plain_box x) (option_map plain_box y))
    ∙ sym (candidate_by (plain_problem c.args.problem.now) shells boxes c.args.pair.a c.args.pair.b thr _ _ x y c.pair_threshold-thr.ensures.value
    (shell_on shells c.args.pair.a _ (omega arith)) (shell_on shells c.args.pair.b _ (omega arith))
    (box_in boxes c.args.pair.a x (omega arith) c.index-boxes-a.is) (box_in boxes c.args.pair.b y (omega arith) c.index-boxes-b.is))

pub returns-else-are_kept : goal.returns-else-are_kept
returns-else-are_kept c =
    let shells = c.args.shells.now in
    let before = c.args.pair.ordered in
    c.if-are_kept.false
    ∙ sym (not_kept (plain_problem c.args.problem.now) shells c.args.boxes.now c.args.pair.a c.args.pair.b c.pair_threshold-thr.result _ _ c.pair_threshold-thr.ensures.value
    (shell_on shells c.args.pair.a _ (omega arith)) (shell_on shells c.args.pair.b _ (omega arith)) (sym c.if-are_kept.ensures))
