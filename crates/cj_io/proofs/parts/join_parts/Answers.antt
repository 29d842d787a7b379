use Rattle.std.proofs.Common.{List, ℕ, ◌++◌, ap, sym, ◌∙◌}
use Rattle.std.proofs.lemmas.List.{take_all}
use Rattle.cj_io.specs.Parts.{joined}
use Rattle.cj_io.proofs.FileLemmas.{joined_more}
use Rattle.cj_io.proofs.parts.join_parts.Goals as goal

pub loop-part-preserved : goal.loop-part-preserved
loop-part-preserved c =
    let part = c.part-item.result in
    c.in_ok-extend_from_slice.ensures.items
    ∙ ap (λ (xs : List ℕ). c.loop-part.bytes.items ++ xs) c.deref.ensures.value
    ∙ ap (λ (xs : List ℕ). xs ++ part.items) c.loop-part.invariant
    ∙ sym (joined_more c.args.parts.now c.loop-part.part-index part c.loop-part-test.true c.part-item.is)

pub returns : goal.returns
returns c = c.loop-part.invariant ∙ ap joined (take_all c.loop-part.part-index c.args.parts.now c.loop-part-test.false)
