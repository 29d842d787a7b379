use Rattle.std.proofs.Common.{◌≡◌, ◌+◌, ◌-◌, ◌++◌, ◌∷◌, [], ℕ, List, sym, ap, ◌∙◌, arith}
use Rattle.std.specs.List.{range_with_len}
use Rattle.cj_interval.proofs.RangeLemmas.{range_more}
use Rattle.cj_candidates.proofs.slots_searched.slots_from.Goals as goal

pub loop-slot-preserved : goal.loop-slot-preserved
loop-slot-preserved c =
    let from = c.args.from in
    let slot = c.loop-slot.slot in
    let before = range_with_len from (slot - from) in
    let at : from + (slot - from) ≡ slot = omega arith in
    let count : slot + 1 - from ≡ (slot - from) + 1 = omega arith in
    c.in_ok-push.ensures.items ∙ ap (λ (ks : List ℕ). ks ++ slot ∷ []) c.loop-slot.invariant
    ∙ sym (ap (range_with_len from) count ∙ range_more from (slot - from) ∙ ap (λ (k : ℕ). before ++ k ∷ []) at)

pub returns : goal.returns
returns c =
    let all : c.loop-slot.slot - c.args.from ≡ c.args.count = omega arith in
    c.loop-slot.invariant ∙ ap (range_with_len c.args.from) all
