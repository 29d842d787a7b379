use Rattle.std.proofs.Common.{◌∙◌, IfSome, Option, subst, sym}
use Rattle.cj_track.specs.declared.node.Node.{Node}
use Rattle.cj_track.specs.Nodes.{IsStep}
use Rattle.cj_track.specs.Tracks.{plain_node}
use Rattle.cj_oem.proofs.NodeRowLemmas.{above_if_not_le, leap_decides}
use Rattle.cj_oem.proofs.node_row.following.Goals as goal

pub returns-then-leap_between-clause-value : goal.returns-then-leap_between-clause-value
returns-then-leap_between-clause-value c =
    let later = above_if_not_le _ _ (sym c.le.ensures ∙ c.if-le.false) in
    let leap = sym c.leap_between.ensures ∙ c.if-leap_between.true in
    rw c.in-Some.is (leap_decides (plain_node c.in-Some.before) (plain_node c.args.node) _ later c.if-before-node.false leap)

pub returns-clause-value : goal.returns-clause-value
returns-clause-value c =
    let later = above_if_not_le _ _ (sym c.le.ensures ∙ c.if-le.false) in
    let leap = sym c.leap_between.ensures ∙ c.if-leap_between.false in
    rw c.in-Some.is (leap_decides (plain_node c.in-Some.before) (plain_node c.args.node) _ later c.if-before-node.false leap)

pub returns-clause-step : goal.returns-clause-step
returns-clause-step c =
    let later = above_if_not_le _ _ (sym c.le.ensures ∙ c.if-le.false) in
    let leap = sym c.leap_between.ensures ∙ c.if-leap_between.false in
    let step : IsStep c.in-Some.before c.args.node = record { rises = later; short = c.if-before-node.false; steady = leap } in
    subst (λ (before : Option Node). IfSome before (λ b. IsStep b c.args.node)) (sym c.in-Some.is) step
