use Rattle.std.proofs.Common.{◌≡◌, ℕ, map, filter, take, vec_len}
use Rattle.cj_case.specs.Pairs.{objects_of}
use Rattle.cj_blocks.specs.Blocks.{is_pair_of}
use Rattle.cj_blocks.specs.PairsByObject.{pairs_at}
use Rattle.cj_blocks.proofs.pairs_by_object.pairs_by_object.Given as goal

abbrev pub invariant-loop-pair : goal.invariant-loop-pair
invariant-loop-pair l = record {
  count : vec_len l.lists ≡ l.objects;
  value : (object : ℕ) → map objects_of (pairs_at (map (λ list. list.items) l.lists.items) object) ≡ filter (is_pair_of object) (map objects_of (take l.pair-index l.pairs));
}
