use Rattle.std.proofs.Common.{◌≡◌, ◌∙◌, ◌+◌, ◌-◌, ◌<◌, ◌≤◌, ◌++◌, ◌∷◌, [], ℕ, List, Option, Some, None, option_map, length, map, ap, sym, arith, append_assoc, append-nil}
use Rattle.std.specs.List.{cons_option, filter_map, range_with_len}
use Rattle.std.proofs.lemmas.List.{map-append}
use Rattle.cj_interval.proofs.RangeLemmas.{filter_map-range_more}
use Rattle.cj_case.specs.Boxes.{PlainBox, plain_box, plain_boxes}
use Rattle.cj_blocks.specs.declared.block.Block.{Block}
use Rattle.cj_blocks.specs.Blocks.{PlainBlock, single_in}
use Rattle.cj_bezier.specs.SlotBoxes.{reaches_in}
use Rattle.cj_blocks.specs.Listed.{plain_block}
use Rattle.cj_cert.proofs.WrittenLineLemmas.{box_found}
use Rattle.cj_blocks.proofs.listing.append_singles.Goals as goal
use Rattle.cj_blocks.proofs.listing.append_singles.Goals.{in-Some+in_ok-push, in_default}

pub loop-slot-preserved : goal.loop-slot-preserved
loop-slot-preserved c =
    let i = c.loop-slot.invariant in
    let s = c.args.slots in
    let slot = c.loop-slot.slot in
    let within = s.within in
    let all = c.requires in
    let later = i.later in
    let own : ℕ → ℕ → Option PlainBox = λ _. reaches_in (plain_boxes c.args.row.now) in
    let old = map plain_block c.args.blocks.now.items in
    let next : slot - s.first + 1 ≡ slot + 1 - s.first = omega arith in
    let more : filter_map (single_in own c.args.object) (range_with_len s.first (slot + 1 - s.first))
    ≡ filter_map (single_in own c.args.object) (range_with_len s.first (slot - s.first)) ++ cons_option (single_in own c.args.object slot) [] =
    ap (λ (n : ℕ). filter_map (single_in own c.args.object) (range_with_len s.first n)) (sym next) ∙ filter_map-range_more (single_in own c.args.object) s.first (slot - s.first) slot (omega arith) in
    let so_far = filter_map (single_in own c.args.object) (range_with_len s.first (slot - s.first)) in
    elim c.match-row-slot.branch [
      | in-Some+in_ok-push w ↦
          let area = w.in-Some.area in
          let within_list : slot < length c.args.row.now = omega arith in
          let later_now : s.first ≤ slot + 1 = omega arith in
          let block : Block = record { object = c.args.object; first = slot; last = slot; area = area; some = _ } in
          let here : own c.args.object slot ≡ Some (plain_box area) = box_found c.args.row.now slot _ (Some area) within_list w.in-Some.is in
          let single : single_in own c.args.object slot ≡ Some (plain_block block) = ap (λ (o : Option PlainBox). option_map (λ a. record { object = c.args.object; first = slot; last = slot; area = a }) o) here in
          rw w.blocks-is
          (record {
            later = later_now;
            blocks = ap (map plain_block) w.in_ok-push.ensures.items ∙ map-append plain_block c.loop-slot.blocks.items (block ∷ [])
                ∙ ap (λ (bs : List PlainBlock). bs ++ plain_block block ∷ []) i.blocks
                ∙ append_assoc old so_far (plain_block block ∷ [])
                ∙ ap (λ (o : Option PlainBlock). old ++ (so_far ++ cons_option o [])) (sym single)
                ∙ ap (λ (bs : List PlainBlock). old ++ bs) (sym more);
          })
      | in_default w ↦
          let here : own c.args.object slot ≡ None = box_found c.args.row.now slot _ None (omega arith) w.in_default.is in
          let single : single_in own c.args.object slot ≡ None = ap (λ (o : Option PlainBox). option_map (λ a. record { object = c.args.object; first = slot; last = slot; area = a }) o) here in
          rw w.blocks-is
          (record {
            later = omega arith;
            blocks = i.blocks
                ∙ ap (λ (bs : List PlainBlock). old ++ bs) (sym (append-nil so_far))
                ∙ ap (λ (o : Option PlainBlock). old ++ (so_far ++ cons_option o [])) (sym single)
                ∙ ap (λ (bs : List PlainBlock). old ++ bs) (sym more);
          })
    ]
