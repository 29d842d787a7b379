use Rattle.std.proofs.Common.{◌+◌, ◌-◌, ◌≡◌, ℕ, suc, None, Some, Option, map, option_map, sym, ap, ◌∙◌, arith}
use Rattle.std.specs.List.{range_with_len}
use Rattle.cj_case.specs.Boxes.{PlainBox, plain_box, plain_boxes}
use Rattle.cj_bezier.specs.SlotBoxes.{reaches_in}
use Rattle.cj_blocks.specs.BoxRows.{round_all, round_both}
use Rattle.cj_blocks.proofs.RoundLemmas.{round_one, round_more, round_missing}
use Rattle.cj_cert.proofs.WrittenLineLemmas.{box_found}
use Rattle.cj_blocks.proofs.round_boxes.box_round.Goals as goal

pub returns-in_err-round : goal.returns-in_err-round
returns-in_err-round c =
    let s = c.args.slots in
    let some = s.some in
    let within = s.within in
    let all = c.requires in
    let f = reaches_in (plain_boxes c.args.row.now) in
    let here : f s.first ≡ None = box_found c.args.row.now s.first c.index-row-slots.result None (omega arith) (sym c.index-row-slots.is ∙ c.in_err-round.was) in
    let gone : c.from_residual.result ≡ None = cc in
    ap (option_map plain_box) gone ∙ sym (round_missing f s.first s.count s.first (omega arith) (omega arith) here)

pub loop-slot-init : goal.loop-slot-init
loop-slot-init c = record {
  later = omega arith;
  round =
      let s = c.args.slots in
      let some = s.some in
      let within = s.within in
      let all = c.requires in
      let f = reaches_in (plain_boxes c.args.row.now) in
      let round = c.in_ok-round.round in
      let here : f s.first ≡ Some (plain_box round) =
      box_found c.args.row.now s.first c.index-row-slots.result (Some round) (omega arith) (sym c.index-row-slots.is ∙ c.in_ok-round.was) in
      let one : 1 ≡ s.first + 1 - s.first = omega arith in
      sym here ∙ sym (round_one f s.first) ∙ ap (λ (n : ℕ). round_all (map f (range_with_len s.first n))) one;
}

pub returns-in_err-row : goal.returns-in_err-row
returns-in_err-row c =
    let s = c.args.slots in
    let some = s.some in
    let within = s.within in
    let all = c.requires in
    let later = c.loop-slot.invariant.later in
    let slot = c.loop-slot.slot in
    let f = reaches_in (plain_boxes c.args.row.now) in
    let here : f slot ≡ None =
    box_found c.args.row.now slot c.index-row-slot.result None (omega arith)
    (sym c.index-row-slot.is ∙ c.in_err-row.was) in
    let gone : c.from_residual-in_err-row.result ≡ None = cc in
    ap (option_map plain_box) gone ∙ sym (round_missing f s.first s.count slot (omega arith) (omega arith) here)

pub loop-slot-preserved : goal.loop-slot-preserved
loop-slot-preserved c = record {
  later = let later = c.loop-slot.invariant.later in omega arith;
  round =
      let s = c.args.slots in
      let some = s.some in
      let within = s.within in
      let all = c.requires in
      let later = c.loop-slot.invariant.later in
      let slot = c.loop-slot.slot in
      let f = reaches_in (plain_boxes c.args.row.now) in
      let next = c.in_ok-row.field-0 in
      let here : f slot ≡ Some (plain_box next) =
      box_found c.args.row.now slot c.index-row-slot.result (Some next) (omega arith)
      (sym c.index-row-slot.is ∙ c.in_ok-row.was) in
      let n = slot - s.first - 1 in
      let before : slot - s.first ≡ suc n = omega arith in
      let now : slot + 1 - s.first ≡ suc (suc n) = omega arith in
      let far : Some (plain_box c.loop-slot.round) ≡ round_all (map f (range_with_len s.first (suc n))) =
      c.loop-slot.invariant.round ∙ ap (λ (k : ℕ). round_all (map f (range_with_len s.first k))) before in
      ap (λ (b : PlainBox). Some b) c.round_two-round.ensures
      ∙ ap (λ (o : Option PlainBox). round_both o (Some (plain_box next))) far
      ∙ ap (λ (o : Option PlainBox). round_both (round_all (map f (range_with_len s.first (suc n)))) o) (sym here)
      ∙ sym (round_more f s.first n slot (omega arith))
      ∙ ap (λ (k : ℕ). round_all (map f (range_with_len s.first k))) (sym now);
}
