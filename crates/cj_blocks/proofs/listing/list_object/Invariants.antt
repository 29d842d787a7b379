use Rattle.std.proofs.Common.{◌≡◌, ◌++◌, length, map}
use Rattle.std.specs.List.{flat_map, range_with_len}
use Rattle.cj_blocks.specs.Listed.{block_of, plain_block}
use Rattle.cj_blocks.proofs.TreatedLemmas.{IsTreatedTo}
use Rattle.cj_blocks.proofs.listing.list_object.Given as goal

abbrev pub invariant-loop-block : goal.invariant-loop-block
invariant-loop-block l = record {
  objects : length l.current.rows ≡ length l.initial.current.rows;
  wide : l.current.slots ≡ l.initial.current.slots;
  current : IsTreatedTo (record { pairs = l.pairs; slots = l.boxes.slots; boxes = l.boxes.rows; current = l.initial.current.rows; sizes = l.sizes; threshold = l.thr }) l.object l.block l.current.rows;
  blocks : map plain_block l.blocks.items ≡ map plain_block l.initial.blocks.items
      ++ flat_map (block_of (record { pairs = l.pairs; slots = l.boxes.slots; boxes = l.boxes.rows; current = l.initial.current.rows; sizes = l.sizes; threshold = l.thr }) l.object) (range_with_len 0 l.block);
}
