use Rattle.std.proofs.Common.{◌≡◌, ℕ, ap, ◌∙◌}
use Rattle.cj_case.specs.Problems.{plain_problem}
use Rattle.cj_hermite.specs.Ready.{curve_ready}
use Rattle.cj_case.specs.Leaves.{plain_leaf}
use Rattle.cj_meet.specs.Closest.{approach_at}
use Rattle.cj_meet.specs.Searches.{plain_approach}
use Rattle.cj_meet.proofs.ClosestLemmas.{ends_are, glanced}
use Rattle.cj_meet.proofs.approaching.glance.Goals as goal

pub returns : goal.returns
returns c =
    let case = plain_problem c.args.problem.now in
    let leaf = c.args.leaf.now in
    let s = plain_leaf leaf in
    let x = curve_ready c.prepare.result.0 in
    let y = curve_ready c.prepare.result.1 in
    let ends = c.ends.ensures x y c.gap_over.ensures in
    let first : c.whole_of-whole.result.first.micros ≡ leaf.cell.first.micros = ap (λ t. t.micros) c.whole_of-whole.ensures.first in
    let last : c.whole_of-whole.result.last.micros ≡ leaf.cell.last.micros = ap (λ t. t.micros) c.whole_of-whole.ensures.last in
    glanced case s x y (plain_approach c.ends.result.0) (plain_approach c.ends.result.1) (plain_approach c.nearer.result) leaf.cell.some c.prepare.ensures.first_over c.prepare.ensures.second_over
    (ends_are case s x y c.prepare.ensures.first c.prepare.ensures.second) (ends.0 ∙ ap (λ (m : ℕ). approach_at x y m) first) (ends.1 ∙ ap (λ (m : ℕ). approach_at x y m) last) c.nearer.ensures
