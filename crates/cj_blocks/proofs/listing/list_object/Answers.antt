use Rattle.std.proofs.Common.{◌∙◌, ◌<◌, ◌++◌, ℕ, List, map, ap, sym, arith, append_assoc}
use Rattle.std.specs.List.{flat_map, range_with_len}
use Rattle.cj_interval.proofs.RangeLemmas.{flat_map-range_more}
use Rattle.cj_blocks.specs.Blocks.{PlainBlock, block_count, slots_in}
use Rattle.cj_blocks.specs.Listed.{Treated, block_of, listed_of, plain_block}
use Rattle.cj_blocks.proofs.TreatedLemmas.{AreSlotsOf, all_treated, block_listed, one_block_more, with_boxes}
use Rattle.cj_blocks.proofs.listing.list_object.Goals as goal

pub loop-block-preserved : goal.loop-block-preserved
loop-block-preserved c =
    let a = c.args in
    let t : Treated = record { pairs = a.pairs.now; slots = a.boxes.now.slots; boxes = a.boxes.now.rows; current = a.current.now.rows; sizes = a.sizes.now; threshold = a.thr } in
    let i = c.loop-block.invariant in
    let q = c.loop-block.block in
    let s = c.new.result in
    let end = c.div_ceil-block-end.ensures in
    let wide = c.slots-slots.ensures.value in
    let exists : q < block_count a.boxes.now.slots = omega arith in
    let are : AreSlotsOf a.boxes.now.slots q s.all s.first s.count = record { same = c.new.ensures.all ∙ wide; from = c.new.ensures.first; many = c.new.ensures.count ∙ ap (λ (n : ℕ). slots_in n q) wide } in
    let now = c.loop-block.current.rows in
    let old = map plain_block a.blocks.now.items in
    let so_far = flat_map (block_of t a.object) (range_with_len 0 q) in
    let listed = listed_of (with_boxes t s.all now) a.object s.first s.count in
    record {
      objects = c.in_ok-list_block.ensures.objects ∙ i.objects;
      wide = c.in_ok-list_block.ensures.slots ∙ i.wide;
      current = one_block_more t a.object q s.all s.first s.count now c.list_block.new.current.rows are exists i.current c.in_ok-list_block.ensures.current;
      blocks = c.in_ok-list_block.ensures.blocks
          ∙ ap (λ (bs : List PlainBlock). bs ++ listed) i.blocks
          ∙ append_assoc old so_far listed
          ∙ ap (λ (bs : List PlainBlock). old ++ (so_far ++ bs)) (block_listed t a.object q s.all s.first s.count now are exists i.current)
          ∙ ap (λ (bs : List PlainBlock). old ++ bs) (sym (flat_map-range_more (block_of t a.object) 0 q q (omega arith)));
    }

pub list_block-requires-clause-wide : goal.list_block-requires-clause-wide
list_block-requires-clause-wide c = sym c.slots-slots.ensures.value ∙ sym c.new.ensures.all

pub list_block-requires-clause-same : goal.list_block-requires-clause-same
list_block-requires-clause-same c = c.loop-block.invariant.objects ∙ c.requires.same

pub list_block-requires-clause-same_wide : goal.list_block-requires-clause-same_wide
list_block-requires-clause-same_wide c = c.loop-block.invariant.wide ∙ c.requires.same_wide ∙ sym c.slots-slots.ensures.value ∙ sym c.new.ensures.all

pub returns-clause-current : goal.returns-clause-current
returns-clause-current c =
    let a = c.args in
    let t : Treated = record { pairs = a.pairs.now; slots = a.boxes.now.slots; boxes = a.boxes.now.rows; current = a.current.now.rows; sizes = a.sizes.now; threshold = a.thr } in
    let end = c.div_ceil-block-end.ensures in
    let wide = c.slots-slots.ensures.value in
    all_treated t a.object c.loop-block.block c.loop-block.current.rows (omega arith) c.loop-block.invariant.current
