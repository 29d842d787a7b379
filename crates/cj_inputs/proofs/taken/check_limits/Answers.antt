use Rattle.std.proofs.Common.{◌∙◌, sym}
use Rattle.cj_inputs.proofs.ReadingLemmas.{fits, overflows}
use Rattle.cj_inputs.proofs.taken.check_limits.Goals as goal

pub returns-then-nodes-limits-clause-told : goal.returns-then-nodes-limits-clause-told
returns-then-nodes-limits-clause-told c =
    overflows c.args.limits.nodes c.args.before.now c.args.name.now c.args.track.now c.args.nodes (sym c.has_frame_of.ensures ∙ c.if-not-has_frame_of.false) c.requires c.if-nodes-limits.true

pub returns-clause-told : goal.returns-clause-told
returns-clause-told c =
    fits c.args.limits.nodes c.args.before.now c.args.name.now c.args.track.now c.args.nodes (sym c.has_frame_of.ensures ∙ c.if-not-has_frame_of.false) c.requires c.if-nodes-limits.false

pub returns-clause-nodes : goal.returns-clause-nodes
returns-clause-nodes c = c.if-nodes-limits.false
