use Rattle.std.proofs.Common.{ap, ℕ, List, [], ◌∷◌, ◌++◌, Ok, ◌∙◌, codes, subst, arith}
use Rattle.cj_io.specs.declared.file.FileBytes.{FileBytes}
use Rattle.cj_io.specs.Parts.{joined}
use Rattle.cj_outputs.specs.Findings.{ended}
use Rattle.cj_outputs.specs.Outcome.{Leaves, output}
use Rattle.cj_outputs.proofs.EndLemmas.{first_leaves, first_stand, nothing_made, put_failed, second_leaves}
use Rattle.cj_outputs.proofs.rewriting.put_rewritten.Goals as goal

abbrev renewed : List ℕ → FileBytes
renewed bytes = output (codes "screen.cert2") bytes

abbrev said : FileBytes
said = output (codes "-") (codes "REWRITTEN" ++ 10 ∷ [])

pub returns-in_err-put_parts : goal.returns-in_err-put_parts
returns-in_err-put_parts g c =
    let now = g.S.Shelf.outputs c.put_parts.new.shelf in
    let s = c.in_err-put_parts.field-0.0 in
    let failed = c.in_err-put_parts.ensures in
    put_failed _ _ _ _ _ _ s _ c.from_residual-in_err-put_parts.ensures.1 (omega arith) failed.comes failed.write failed.later
    (λ old stood.
    subst (λ (bytes : List ℕ). Leaves s (Ok (renewed bytes ∷ said ∷ [])) old now) (ap joined c.deref.ensures.value ∙ c.in_ok-parts.ensures)
    (first_leaves s (renewed (joined c.deref.result.now) ∷ []) (said ∷ []) old now failed.comes (failed.leaves old stood)))

pub returns-clause-leaves : goal.returns-clause-leaves
returns-clause-leaves g c = λ old stood.
    let now = g.S.Shelf.outputs c.put.new.shelf in
    let first = renewed (joined c.deref.result.now) ∷ [] in
    let behind = first_stand first old (g.S.Shelf.outputs c.put_parts.new.shelf) (c.in_ok-put_parts.ensures.leaves old stood) in
    subst (λ (bytes : List ℕ). Leaves (ended c.put.result) (Ok (renewed bytes ∷ said ∷ [])) old now) (ap joined c.deref.ensures.value ∙ c.in_ok-parts.ensures)
    (second_leaves c.put.result first (said ∷ []) old now c.put.ensures.comes (c.put.ensures.leaves (old ++ first) behind))

pub returns-in_err-parts : goal.returns-in_err-parts
returns-in_err-parts g c = nothing_made _ _ _ _ c.from_residual.ensures.1
