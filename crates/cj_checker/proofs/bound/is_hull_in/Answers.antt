use Rattle.std.proofs.Common.{length, rules, ◌≡◌, ◌∙◌}
use Rattle.std.proofs.lemmas.Iterator.{YieldsList-from_slice}
use Rattle.std.proofs.lemmas.Iterator.Search.{all_from_yields_List}
use Rattle.cj_checker.specs.Bounds.{is_point_in}
use Rattle.cj_checker.proofs.BoundLemmas.{by_points}
use Rattle.cj_checker.proofs.bound.is_hull_in.Goals as goal

pub returns : goal.returns
returns c =
    let area = c.args.area.now in
    let four : length c.args.hull.now.points ≡ 4 = search rules in
    all_from_yields_List (is_point_in area) c.all.new.self _ c.all.result c.all.ensures.ran (YieldsList-from_slice c.args.hull.now.points cc) (λ x b q k. search rules)
    ∙ by_points area c.args.hull.now.points four
