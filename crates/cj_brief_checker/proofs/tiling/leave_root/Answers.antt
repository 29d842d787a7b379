use Rattle.std.proofs.Common.{◌≡◌, ◌||◌, not, true, false, sym, ◌∙◌}
use Rattle.cj_bezier.specs.RootLeaves.{is_far_throughout}
use Rattle.cj_checker.specs.Tiling.{root_from}
use Rattle.cj_brief_checker.specs.Steps.{left_at}
use Rattle.cj_brief_checker.proofs.tiling.leave_root.Goals as goal

pub returns-then-begun-clause-tells : goal.returns-then-begun-clause-tells
returns-then-begun-clause-tells c case of =
    let r = root_from c.args.root.now c.args.root.now.ticks.first.micros in
    λ i. left_at (sym c.if-begun.true i || not (is_far_throughout case r)) c.args.at

pub returns-then-is_far_throughout-clause-tells : goal.returns-then-is_far_throughout-clause-tells
returns-then-is_far_throughout-clause-tells c case of =
    let r = root_from c.args.root.now c.args.root.now.ticks.first.micros in
    let far : is_far_throughout case r ≡ true = sym (c.is_far_throughout.ensures case of) ∙ c.if-is_far_throughout.true in
    λ i. left_at (sym c.if-begun.false i || not (sym far i)) c.args.at

pub returns-else-is_far_throughout-clause-tells : goal.returns-else-is_far_throughout-clause-tells
returns-else-is_far_throughout-clause-tells c case of =
    let r = root_from c.args.root.now c.args.root.now.ticks.first.micros in
    let near : is_far_throughout case r ≡ false = sym (c.is_far_throughout.ensures case of) ∙ c.if-is_far_throughout.false in
    λ i. left_at (sym c.if-begun.false i || not (sym near i)) c.args.at
