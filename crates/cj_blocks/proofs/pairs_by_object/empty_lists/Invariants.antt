use Rattle.std.proofs.Common.{◌≡◌, ℕ, [], map, vec_len}
use Rattle.cj_blocks.specs.PairsByObject.{pairs_at}
use Rattle.cj_blocks.proofs.pairs_by_object.empty_lists.Given as goal

abbrev pub invariant-loop : goal.invariant-loop
invariant-loop l = record {
  count : vec_len l.lists ≡ l.counter;
  empty : (object : ℕ) → pairs_at (map (λ list. list.items) l.lists.items) object ≡ [];
}
