use Rattle.std.proofs.Common.{◌≡◌, [], List, Vec, Global, map, subst, sym, arith}
use Rattle.cj_case.specs.declared.pair.Pair.{Pair}
use Rattle.cj_blocks.specs.PairsByObject.{pairs_at}
use Rattle.cj_blocks.proofs.EnteredLemmas.{one_empty_more}
use Rattle.cj_blocks.proofs.pairs_by_object.empty_lists.Goals as goal

pub loop-preserved : goal.loop-preserved
loop-preserved c = record {
  count = let i = c.loop.invariant.count in let more = c.in_ok-push.ensures.len in omega arith;
  empty = λ object. subst (λ (xs : List (Vec Pair Global)). pairs_at (map (λ list. list.items) xs) object ≡ []) (sym c.in_ok-push.ensures.items)
      (one_empty_more c.loop.lists.items c.new.result c.new.ensures.items c.loop.invariant.empty object);
}
