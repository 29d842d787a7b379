use Rattle.std.proofs.Common.{List, subst}
use Rattle.std.specs.List.Sorted.{IsPermutation}
use Rattle.cj_cdm.specs.declared.dated.Dated.{Dated}
use Rattle.cj_cdm.proofs.DatedLemmas.{sorted_in_order}
use Rattle.cj_cdm.proofs.dating.in_order.Goals as goal

pub returns : goal.returns
returns c = record {
  same = subst (λ (es : List Dated). IsPermutation es c.sort_unstable.new.self.items) c.in_ok-dated.ensures c.sort_unstable.ensures.permutation;
  order = sorted_in_order c.sort_unstable.new.self.items c.sort_unstable.ensures.sorted;
}
