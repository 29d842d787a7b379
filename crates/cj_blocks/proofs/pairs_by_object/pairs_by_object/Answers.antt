use Rattle.std.proofs.Common.{◌∙◌, ◌++◌, ◌∷◌, [], List, ap, map, filter, sym, arith, take}
use Rattle.std.proofs.lemmas.List.{take_more}
use Rattle.cj_case.specs.declared.pair.Pair.{Pair}
use Rattle.cj_case.specs.Pairs.{objects_of}
use Rattle.cj_blocks.specs.Blocks.{is_pair_of}
use Rattle.cj_blocks.specs.PairsByObject.{pairs_at}
use Rattle.cj_blocks.proofs.EnteredLemmas.{both_entered}
use Rattle.cj_blocks.proofs.pairs_by_object.pairs_by_object.Goals as goal

pub loop-pair-preserved : goal.loop-pair-preserved
loop-pair-preserved c =
    let i = c.loop-pair.invariant in
    let pair = c.pair-item.result in
    let at = c.loop-pair.pair-index in
    let pairs = c.args.pairs.now in
    record {
      count = let one = c.in_ok-enter.ensures.count in let two = c.in_ok-enter-2.ensures.count in let before = i.count in omega arith;
      value = λ object.
          both_entered object pair (pairs_at (map (λ list. list.items) c.loop-pair.lists.items) object) (pairs_at (map (λ list. list.items) c.enter.new.lists.items) object)
          (pairs_at (map (λ list. list.items) c.enter-in-loop-pair.new.lists.items) object) (take at pairs) (c.in_ok-enter.ensures.lists object) (c.in_ok-enter-2.ensures.lists object) (i.value object)
          ∙ ap (λ (ps : List Pair). filter (is_pair_of object) (map objects_of ps)) (ap (λ (x : Pair). take at pairs ++ x ∷ []) c.pair-item.is ∙ sym (take_more pairs at pair (omega arith)));
    }
