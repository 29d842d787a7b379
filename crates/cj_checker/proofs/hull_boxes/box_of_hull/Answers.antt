use Rattle.std.proofs.Common.{get_or, rules, ◌∙◌}
use Rattle.cj_bezier.specs.Sizes.{HULL_REACH}
use Rattle.cj_bezier.specs.SlotBoxes.{round_two}
use Rattle.cj_bezier.proofs.JoinedBoxLemmas.{point_at, point_within, reaches_by_points}
use Rattle.cj_checker.proofs.hull_boxes.box_of_hull.Goals as goal

pub returns-clause-value : goal.returns-clause-value
returns-clause-value c =
    let points = c.args.hull.now.points in
    let first = c.join_boxes.ensures.value in
    let second = c.join_boxes-2.ensures.value in
    c.join_boxes-3.ensures.value ∙ (λ i. round_two (first i) (second i))
    ∙ reaches_by_points points (get_or points 0 c.index-hull-0.result) (get_or points 1 c.index-hull-1.result) (get_or points 2 c.index-hull-2.result) (get_or points 3 c.index-hull-3.result)
    (point_at points 0 c.index-hull-0.result (search rules)) (point_at points 1 c.index-hull-1.result (search rules)) (point_at points 2 c.index-hull-2.result (search rules)) (point_at points 3 c.index-hull-3.result (search rules))

pub returns-clause-within : goal.returns-clause-within
returns-clause-within c =
    let points = c.args.hull.now.points in
    let all = c.args.hull.now.within in
    c.join_boxes-3.ensures.within HULL_REACH
    (c.join_boxes.ensures.within HULL_REACH (point_within HULL_REACH 0 points _ all (point_at points 0 c.index-hull-0.result (search rules))) (point_within HULL_REACH 1 points _ all (point_at points 1 c.index-hull-1.result (search rules))))
    (c.join_boxes-2.ensures.within HULL_REACH (point_within HULL_REACH 2 points _ all (point_at points 2 c.index-hull-2.result (search rules))) (point_within HULL_REACH 3 points _ all (point_at points 3 c.index-hull-3.result (search rules))))
