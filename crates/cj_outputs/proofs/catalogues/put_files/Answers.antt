use Rattle.std.proofs.Common.{◌≡◌, ◌∙◌, ◌+◌, ◌++◌, ◌∷◌, [], suc, List, Some, Err, Ok, arith, ap, ap₂, sym, subst, take, drop, append_assoc}
use Rattle.std.proofs.lemmas.List.{take_more}
use Rattle.std.proofs.Math.Seq.{split_at}
use Rattle.cj_io.specs.declared.file.FileBytes.{FileBytes}
use Rattle.cj_status.specs.declared.status.Status.TheVariants as status
use Rattle.cj_outputs.specs.Outcome.{Leaves, output}
use Rattle.cj_outputs.proofs.EndLemmas.{first_leaves, first_stand, put_failed, second_leaves}
use Rattle.cj_outputs.proofs.catalogues.put_files.Goals as goal

pub loop-file-preserved : goal.loop-file-preserved
loop-file-preserved g c = record {
  put = λ old stood.
      let files = c.args.files.now in
      let i = c.loop-file.file-index in
      let x = c.file-item.result in
      let more : take (i + 1) files ≡ take i files ++ x ∷ [] = take_more files i x c.loop-file-test.true ∙ ap (λ (y : FileBytes). take i files ++ y ∷ []) (sym c.file-item.is) in
      let now = g.S.Shelf.outputs c.put.new.shelf in
      let same : output c.as_slice.result.now c.as_slice-in-loop-file.result.now ≡ x = ap₂ output c.as_slice.ensures c.as_slice-in-loop-file.ensures in
      let put = subst (λ (p : FileBytes). Leaves status.Ok (Ok (p ∷ [])) (old ++ take i files) now) same (c.in_ok-put.ensures.leaves (old ++ take i files) (c.loop-file.invariant.put old stood)) in
      first_stand (x ∷ []) (old ++ take i files) now put
      ∙ ap (λ (ps : List FileBytes). Some ps) (append_assoc old (take i files) (x ∷ []) ∙ ap (λ (ps : List FileBytes). old ++ ps) (sym more));
  later = omega (arith, c.put.ensures.later, c.loop-file.invariant.later);
}

pub returns-in_err-put : goal.returns-in_err-put
returns-in_err-put g c =
    let files = c.args.files.now in
    let i = c.loop-file.file-index in
    let x = c.file-item.result in
    let now = g.S.Shelf.outputs c.put.new.shelf in
    let whole : take i files ++ x ∷ drop (suc i) files ≡ files = ap (λ (y : FileBytes). take i files ++ y ∷ drop (suc i) files) c.file-item.is ∙ sym (split_at files i x c.loop-file-test.true) in
    let same : output c.as_slice.result.now c.as_slice-in-loop-file.result.now ≡ x = ap₂ output c.as_slice.ensures c.as_slice-in-loop-file.ensures in
    let s = c.in_err-put.field-0.0 in
    let failed = c.in_err-put.ensures in
    put_failed _ _ _ _ _ _ s _ c.from_residual.ensures.1 c.loop-file.invariant.later failed.comes failed.write failed.later
    (λ old stood.
    let put = subst (λ (p : FileBytes). Leaves s (Ok (p ∷ [])) (old ++ take i files) now) same
    (failed.leaves (old ++ take i files) (c.loop-file.invariant.put old stood)) in
    let here = first_leaves s (x ∷ []) (drop (suc i) files) (old ++ take i files) now failed.comes put in
    subst (λ (ps : List FileBytes). Leaves s (Ok ps) old now) whole (second_leaves (Err s) (take i files) (x ∷ drop (suc i) files) old now failed.comes here))
