use Rattle.std.proofs.Common.{◌∙◌, ap}
use Rattle.std.specs.List.{sum}
use Rattle.std.proofs.lemmas.List.{take_all}
use Rattle.cj_sieve.proofs.pair_filter.sum_of.Goals as goal

pub returns : goal.returns
returns c = c.loop-count.invariant.so_far ∙ ap sum (take_all c.loop-count.count-index c.args.counts.now c.loop-count-test.false)
