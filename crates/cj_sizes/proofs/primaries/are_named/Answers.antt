use Rattle.cj_sizes.proofs.PrimaryLemmas.{marks_more}
use Rattle.std.proofs.Common.{◌∙◌}
use Rattle.cj_sizes.proofs.primaries.are_named.Goals as goal

pub loop-id-preserved : goal.loop-id-preserved
loop-id-preserved c = marks_more c.args.named.now c.args.ids.now c.loop-id.id-index _ c.loop-id.marks.items c.push.new.self.items c.contains.result c.loop-id-test.true
    c.in_ok-push.ensures.items (c.contains.ensures ∙ c.in_ok-set.ensures _) c.loop-id.invariant
