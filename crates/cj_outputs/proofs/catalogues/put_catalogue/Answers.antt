use Rattle.std.proofs.Common.{ℕ, List, length, ◌++◌, ◌∷◌, [], Ok, subst, ◌∙◌, arith}
use Rattle.cj_outputs.specs.Findings.{ended}
use Rattle.cj_outputs.specs.Outcome.{Leaves, count_bytes, summary_output}
use Rattle.cj_outputs.proofs.EndLemmas.{first_leaves, first_stand, nothing_made, put_failed, second_leaves}
use Rattle.cj_outputs.proofs.catalogues.put_catalogue.Goals as goal

pub returns-in_err-put_files : goal.returns-in_err-put_files
returns-in_err-put_files g c =
    let files = c.args.files.now in
    let last = summary_output (count_bytes (length files)) in
    let s = c.in_err-put_files.field-0.0 in
    let failed = c.in_err-put_files.ensures in
    put_failed _ _ _ _ _ _ s _ c.from_residual-in_err-put_files.ensures.1 (omega arith) failed.comes failed.write failed.later
    (λ old stood.
    first_leaves s files (last ∷ []) old (g.S.Shelf.outputs c.put_files.new.shelf) failed.comes (failed.leaves old stood))

pub returns-clause-leaves : goal.returns-clause-leaves
returns-clause-leaves g c = λ old stood.
    let files = c.args.files.now in
    let now = g.S.Shelf.outputs c.put.new.shelf in
    let behind = first_stand files old (g.S.Shelf.outputs c.put_files.new.shelf) (c.in_ok-put_files.ensures.leaves old stood) in
    subst (λ (bytes : List ℕ). Leaves (ended c.put.result) (Ok (files ++ summary_output bytes ∷ [])) old now)
    (c.deref.ensures.value ∙ c.in_ok-text.ensures)
    (second_leaves c.put.result files (summary_output c.deref.result.now ∷ []) old now c.put.ensures.comes (c.put.ensures.leaves (old ++ files) behind))

pub returns-in_err-text : goal.returns-in_err-text
returns-in_err-text g c = nothing_made _ _ _ _ c.from_residual.ensures.1
