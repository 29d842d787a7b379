use Rattle.std.proofs.Common.{ap, ◌∙◌}
use Rattle.cj_again.specs.PairLeaves.{with_second}
use Rattle.cj_again.proofs.rows.of_pair.Goals as goal

pub part_of-requires : goal.part_of-requires
part_of-requires c = c.row_of.ensures.ordered

pub returns : goal.returns
returns c = c.part_of.ensures ∙ ap (with_second c.args.pair.b) c.row_of.ensures.value
