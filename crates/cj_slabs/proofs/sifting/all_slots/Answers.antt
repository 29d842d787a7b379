use Rattle.std.proofs.Common.{◌≡◌, ◌+◌, ◌++◌, ◌∷◌, [], ℕ, List, sym, ap, ◌∙◌, arith}
use Rattle.std.specs.List.{range_with_len}
use Rattle.cj_interval.proofs.RangeLemmas.{range_more}
use Rattle.cj_slabs.proofs.sifting.all_slots.Goals as goal

pub loop-slot-preserved : goal.loop-slot-preserved
loop-slot-preserved c =
    let slot = c.loop-slot.slot in
    let at : 0 + slot ≡ slot = omega arith in
    c.in_ok-push.ensures.items ∙ ap (λ (ks : List ℕ). ks ++ slot ∷ []) c.loop-slot.invariant
    ∙ sym (range_more 0 slot ∙ ap (λ (k : ℕ). range_with_len 0 slot ++ k ∷ []) at)

pub returns : goal.returns
returns c =
    let all : c.loop-slot.slot ≡ c.slot_count-count.result = omega arith in
    c.loop-slot.invariant ∙ ap (range_with_len 0) (all ∙ c.slot_count-count.ensures)
