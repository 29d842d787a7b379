use Rattle.std.proofs.Common.{sym, subst}
use Rattle.std.proofs.lemmas.List.Filters.{dedup_is}
use Rattle.cj_brief_checker.specs.SlotPairs.{AreInOrder}
use Rattle.cj_brief_checker.proofs.PairLemmas.{pair_eq, deduped_in_order, ordered_has, ordered_from}
use Rattle.cj_brief_checker.proofs.slot_pairs.put_in_order.Goals as goal

pub returns-clause-order : goal.returns-clause-order
returns-clause-order c =
    subst AreInOrder (sym (dedup_is pair_eq c.sort_unstable.new.self.items c.dedup.new.self.items c.dedup.ensures.filtered))
    (deduped_in_order c.sort_unstable.new.self.items c.sort_unstable.ensures.sorted)

pub returns-clause-from : goal.returns-clause-from
returns-clause-from c =
    ordered_from c.args.pairs.now.items c.sort_unstable.new.self.items c.dedup.new.self.items c.sort_unstable.ensures.permutation
    (dedup_is pair_eq c.sort_unstable.new.self.items c.dedup.new.self.items c.dedup.ensures.filtered)

pub returns-clause-kept : goal.returns-clause-kept
returns-clause-kept c =
    ordered_has c.args.pairs.now.items c.sort_unstable.new.self.items c.dedup.new.self.items c.sort_unstable.ensures.permutation
    (dedup_is pair_eq c.sort_unstable.new.self.items c.dedup.new.self.items c.dedup.ensures.filtered)
