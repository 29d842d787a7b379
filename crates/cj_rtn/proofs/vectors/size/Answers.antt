use Rattle.std.proofs.Common.{sym, ap, ◌∙◌}
use Rattle.cj_interval.specs.SquareRoots.{floor_root}
use Rattle.cj_interval.proofs.SquareRootLemmas.{floor_root-is}
use Rattle.cj_rtn.specs.Vectors.{size}
use Rattle.cj_rtn.proofs.vectors.size.Goals as goal

pub returns : goal.returns
unfolding size
returns c =
    sym (floor_root-is c.square.result c.isqrt_down.result c.isqrt_down.ensures.below c.isqrt_down.ensures.next) ∙ ap floor_root c.square.ensures.value
