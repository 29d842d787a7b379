use Rattle.std.proofs.Common.{◌∙◌, ◌++◌, ◌∷◌, [], ℕ, List, false, slice_index_or, sym, ap}
use Rattle.std.specs.Global.{Vec}
use Rattle.cj_brief.proofs.PrimaryLemmas.{no_more, one_more}
use Rattle.cj_brief.proofs.primaries.marked.Goals as goal
use Rattle.cj_brief.proofs.primaries.marked.Goals.{then-is_marked+in_ok-push, else-is_marked}

pub loop-object-preserved : goal.loop-object-preserved
loop-object-preserved c =
    let object = c.loop-object.object in
    elim c.if-is_marked.branch [
      | then-is_marked+in_ok-push w ↦
          ap (λ (v : Vec ℕ). v.items) w.numbers-is ∙ w.in_ok-push.ensures.items ∙ ap (λ (ks : List ℕ). ks ++ object ∷ []) c.loop-object.invariant
          ∙ sym (one_more (λ k. slice_index_or c.args.marks.now k false) object (sym c.is_marked.ensures ∙ w.if-is_marked.true))
      | else-is_marked w ↦
          ap (λ (v : Vec ℕ). v.items) w.numbers-is ∙ c.loop-object.invariant
          ∙ sym (no_more (λ k. slice_index_or c.args.marks.now k false) object (sym c.is_marked.ensures ∙ w.if-is_marked.false))
    ]
