use Rattle.std.proofs.Common.{◌≡◌, ◌++◌, ◌∷◌, [], ℕ, List, Ok, codes, ap, subst, ◌∙◌, arith}
use Rattle.std.proofs.lemmas.Result.{err_from_is_err_and}
use Rattle.cj_io.specs.declared.file.FileBytes.{FileBytes}
use Rattle.cj_status.specs.declared.status.Status.TheVariants as status
use Rattle.cj_track.specs.Tracks.{plain_track}
use Rattle.cj_outputs.specs.Outcome.{Leaves, output}
use Rattle.cj_outputs.specs.Thinned.{thin_output}
use Rattle.cj_outputs.proofs.AcceptingLemmas.{same_error}
use Rattle.cj_outputs.proofs.EndLemmas.{first_stand, nothing_put}
use Rattle.cj_outputs.proofs.ThinnedLemmas.{done_is_no_write, fewer_nodes, memory_is_no_write, nodes_kept, thin_put}
use Rattle.cj_outputs.proofs.thinning.put_track.Goals as goal

pub returns-in_err-thin : goal.returns-in_err-thin
returns-in_err-thin g c =
    let p = err_from_is_err_and c.from_residual.result c.from_residual.ensures.1 in
    rw (p.1, p.2) (record {
      comes = tt;
      write = memory_is_no_write;
      kept = tt;
      fewer = tt;
      put = λ old stood. tt;
      leaves = λ old stood. nothing_put (Ok (thin_output c.args.e (plain_track c.args.track.now) ∷ [])) old (g.S.Shelf.outputs c.args.shelf.now) stood;
      later = omega arith;
    })

pub returns-in_err-name : goal.returns-in_err-name
returns-in_err-name g c =
    let p = err_from_is_err_and c.from_residual-in_err-name.result c.from_residual-in_err-name.ensures.1 in
    rw (p.1, p.2) (record {
      comes = tt;
      write = memory_is_no_write;
      kept = tt;
      fewer = tt;
      put = λ old stood. tt;
      leaves = λ old stood. nothing_put (Ok (thin_output c.args.e (plain_track c.args.track.now) ∷ [])) old (g.S.Shelf.outputs c.args.shelf.now) stood;
      later = omega arith;
    })

pub returns-in_err-text : goal.returns-in_err-text
returns-in_err-text g c =
    let p = err_from_is_err_and c.from_residual-in_err-text.result c.from_residual-in_err-text.ensures.1 in
    rw (p.1, p.2) (record {
      comes = tt;
      write = memory_is_no_write;
      kept = tt;
      fewer = tt;
      put = λ old stood. tt;
      leaves = λ old stood. nothing_put (Ok (thin_output c.args.e (plain_track c.args.track.now) ∷ [])) old (g.S.Shelf.outputs c.args.shelf.now) stood;
      later = omega arith;
    })

pub returns-in_err-put : goal.returns-in_err-put
returns-in_err-put g c =
    let s = c.in_err-put.field-0.0 in
    let failed = c.in_err-put.ensures in
    let now = g.S.Shelf.outputs c.put.new.shelf in
    let same : output c.deref.result.now c.deref-2.result.now ≡ thin_output c.args.e (plain_track c.args.track.now) =
    thin_put c.args.e c.args.track.now c.in_ok-thin.thin c.deref.result.now c.deref-2.result.now
    (c.deref.ensures.value ∙ c.in_ok-name.ensures ∙ ap (λ (file : List ℕ). file ++ codes ".thin") c.as_slice.ensures) (c.deref-2.ensures.value ∙ c.in_ok-text.ensures.value) c.in_ok-thin.ensures.value in
    let p = err_from_is_err_and c.from_residual-in_err-put.result c.from_residual-in_err-put.ensures.1 in
    rw (p.1, p.2) (record {
      comes = failed.comes;
      write = λ is. failed.write (same_error is);
      kept = tt;
      fewer = tt;
      put = λ old stood. tt;
      leaves = λ old stood. subst (λ (o : FileBytes). Leaves s (Ok (o ∷ [])) old now) same (failed.leaves old stood);
      later = failed.later;
    })

pub returns : goal.returns
returns g c =
    let track = c.args.track.now in
    let now = g.S.Shelf.outputs c.put.new.shelf in
    let thin = c.in_ok-thin.ensures in
    let same : output c.deref.result.now c.deref-2.result.now ≡ thin_output c.args.e (plain_track track) =
    thin_put c.args.e track c.in_ok-thin.thin c.deref.result.now c.deref-2.result.now
    (c.deref.ensures.value ∙ c.in_ok-name.ensures ∙ ap (λ (file : List ℕ). file ++ codes ".thin") c.as_slice.ensures) (c.deref-2.ensures.value ∙ c.in_ok-text.ensures.value) thin.value in
    let kept = nodes_kept c.args.e track c.in_ok-thin.thin c.node_count.result thin.value c.node_count.ensures.value in
    record {
      comes = tt;
      write = done_is_no_write;
      kept = kept;
      fewer = omega (arith, kept, fewer_nodes c.args.e track thin.law);
      put = λ old stood.
          first_stand (thin_output c.args.e (plain_track track) ∷ []) old now
          (subst (λ (o : FileBytes). Leaves status.Ok (Ok (o ∷ [])) old now) same (c.in_ok-put.ensures.leaves old stood));
      leaves = λ old stood. tt;
      later = c.put.ensures.later;
    }
