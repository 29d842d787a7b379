use Rattle.std.proofs.Common.{rules}
use Rattle.std.proofs.lemmas.Fn.{always_returns_same}
use Rattle.cj_outputs.proofs.PairSortLemmas.{sorted_by_pairs}
use Rattle.cj_outputs.proofs.any_certificate.cells_by_pairs.Goals as goal

pub returns : goal.returns
returns c =
    let sorted = c.in_ok-sort_by_key.ensures in
    sorted_by_pairs c.args.objects c.args.cells.items c.sort_by_key.new.self.items c.requires sorted.permutation
    (sorted.sorted (λ line. line.pair) (always_returns_same _ _ _ (λ a r q k. search rules)))
    (sorted.stable (λ line. line.pair) (always_returns_same _ _ _ (λ a r q k. search rules)))
