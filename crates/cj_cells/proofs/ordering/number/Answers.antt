use Rattle.std.proofs.Common.{refl, ◌∙◌, ◌<◌, length, arith}
use Rattle.cj_cells.proofs.OrderLemmas.{same_place, numbered_more}
use Rattle.cj_cells.proofs.ordering.number.Goals as goal

pub loop-at-preserved : goal.loop-at-preserved
loop-at-preserved c =
    let cells = c.loop-at.roots in
    let at = c.loop-at.at in
    let lt : at < length cells = omega arith in
    record {
      kept = same_place cells at c.index-roots-at.result _ lt refl ∙ c.loop-at.invariant.kept;
      numbered = numbered_more cells at _ lt refl c.loop-at.invariant.numbered;
    }
