use Rattle.std.proofs.Common.{◌≡◌, ◌∙◌, ◌+◌, ◌-◌, ℕ, Bool, true, false, option_map, sym, subst, arith}
use Rattle.std.specs.List.{list_all, range_with_len}
use Rattle.cj_interval.proofs.RangeLemmas.{one_in_range_fails}
use Rattle.cj_case.specs.Boxes.{plain_box, plain_boxes}
use Rattle.cj_blocks.specs.Blocks.{touches_only_as}
use Rattle.cj_bezier.specs.SlotBoxes.{reaches_in}
use Rattle.cj_blocks.proofs.JoinLemmas.{one_passes}
use Rattle.cj_cert.proofs.WrittenLineLemmas.{box_found}
use Rattle.cj_blocks.proofs.joining.touches_as_own.Goals as goal
use Rattle.cj_blocks.proofs.joining.touches_as_own.Goals.{After-touches_only_as}

-- what is asked of a slot
abbrev test : (c : After-touches_only_as) → ℕ → Bool
test c slot = touches_only_as c.args.thr (option_map plain_box c.args.round.now) (reaches_in (plain_boxes c.args.own.now) slot) (reaches_in (plain_boxes c.args.other.now) slot)

-- it is what was found
tested : (c : After-touches_only_as) → test c c.loop-slot.slot ≡ c.touches_only_as.result
tested c =
    let s = c.args.slots in
    let slot = c.loop-slot.slot in
    let within = s.within in
    let later = c.loop-slot.invariant.later in
    let all = c.requires.own in
    let all' = c.requires.other in
    let own = box_found c.args.own.now slot c.index-own-slot.result c.index-own-slot.result (omega arith) (sym c.index-own-slot.is) in
    let other = box_found c.args.other.now slot c.index-other-slot.result c.index-other-slot.result (omega arith) (sym c.index-other-slot.is) in
    (λ i. touches_only_as c.args.thr (option_map plain_box c.args.round.now) (own i) (other i)) ∙ sym c.touches_only_as.ensures

pub returns-then-not-touches_only_as : goal.returns-then-not-touches_only_as
returns-then-not-touches_only_as c =
    let at = (goal.at.returns-then-not-touches_only_as c).After-touches_only_as in
    let s = c.args.slots in
    let within = s.within in
    let later = c.loop-slot.invariant.later in
    let fails : c.touches_only_as.result ≡ false = cc in
    sym (one_in_range_fails (test at) s.first s.count c.loop-slot.slot (omega arith) (omega arith) (tested at ∙ fails))

pub loop-slot-preserved : goal.loop-slot-preserved
loop-slot-preserved c = record {
  later = let later = c.loop-slot.invariant.later in omega arith;
  so_far =
      let at = (goal.at.loop-slot-preserved c).After-touches_only_as in
      let s = c.args.slots in
      let slot = c.loop-slot.slot in
      let within = s.within in
      let later = c.loop-slot.invariant.later in
      let passes : c.touches_only_as.result ≡ true = cc in
      let next : slot - s.first + 1 ≡ slot + 1 - s.first = omega arith in
      subst (λ (n : ℕ). list_all (test at) (range_with_len s.first n) ≡ true) next
      (one_passes (test at) s.first (slot - s.first) slot (omega arith) c.loop-slot.invariant.so_far (tested at ∙ passes));
}
