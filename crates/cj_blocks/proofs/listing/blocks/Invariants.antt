use Rattle.std.proofs.Common.{◌≡◌, ◌<◌, ℕ, length, map}
use Rattle.std.specs.List.{flat_map, range_with_len}
use Rattle.cj_case.specs.Boxes.{plain_rows}
use Rattle.cj_blocks.specs.Blocks.{block_count, blocks_in, current_boxes}
use Rattle.cj_blocks.specs.BoxRows.{box_at}
use Rattle.cj_blocks.specs.Listed.{given, plain_block}
use Rattle.cj_blocks.proofs.listing.blocks.Given as goal

abbrev pub invariant-loop-object : goal.invariant-loop-object
invariant-loop-object l = record {
  objects : length l.current.rows ≡ length l.boxes.rows;
  wide : l.current.slots ≡ l.boxes.slots;
  current : (other slot : ℕ) → slot < l.boxes.slots → box_at (plain_rows l.current.rows) other slot ≡ current_boxes (given l.kept l.objects l.boxes.slots l.boxes.rows l.sizes l.thr) l.object other slot;
  blocks : map plain_block l.found.items
      ≡ flat_map (λ object. flat_map (blocks_in (given l.kept l.objects l.boxes.slots l.boxes.rows l.sizes l.thr) object) (range_with_len 0 (block_count l.boxes.slots))) (range_with_len 0 l.object);
}
