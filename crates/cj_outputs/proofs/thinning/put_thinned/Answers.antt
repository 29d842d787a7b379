use Rattle.std.proofs.Common.{◌≡◌, ◌++◌, ◌∷◌, [], ℕ, List, Ok, Err, codes, length, map, ap, sym, subst, ◌∙◌, arith}
use Rattle.std.proofs.lemmas.Result.{err_from_is_err_and}
use Rattle.cj_io.specs.declared.file.FileBytes.{FileBytes}
use Rattle.cj_case.specs.CaseLimits.{AreFewNodes, node_total}
use Rattle.cj_status.specs.declared.status.Status.TheVariants as status
use Rattle.cj_track.specs.Tracks.{plain_track}
use Rattle.cj_track.specs.declared.track.Track.{Track}
use Rattle.cj_outputs.specs.Findings.{ended}
use Rattle.cj_outputs.specs.Outcome.{Leaves, output}
use Rattle.cj_words.specs.Commands.{plain_thinning}
use Rattle.cj_outputs.specs.Thinned.{counts_output, length_of, outputs_with_fewer}
use Rattle.cj_outputs.proofs.AcceptingLemmas.{same_error}
use Rattle.cj_outputs.proofs.EndLemmas.{first_leaves, nothing_put, second_leaves}
use Rattle.cj_outputs.proofs.ThinnedLemmas.{counts_put, memory_is_no_write, thin_outputs}
use Rattle.cj_outputs.proofs.thinning.put_thinned.Goals as goal

pub put_tracks-requires-clause-few : goal.put_tracks-requires-clause-few
put_tracks-requires-clause-few g c =
    let lone = c.args.lone.now in
    let few : AreFewNodes lone.tracks.items = omega (arith, lone.counted, lone.few) in
    subst AreFewNodes (sym c.deref.ensures.value) few

-- the put of a track failed, or it was not made
pub returns-in_err-kept : goal.returns-in_err-kept
returns-in_err-kept g c =
    let now = g.S.Shelf.outputs c.put_tracks.new.shelf in
    let tracks = c.deref.result.now in
    let e = c.length_of.result in
    let s = c.in_err-kept.field-0.0 in
    let failed = c.in_err-kept.ensures in
    let p = err_from_is_err_and c.from_residual.result c.from_residual.ensures.1 in
    rw (p.1, p.2) (record {
      comes = failed.comes;
      write = λ is. failed.write (same_error is);
      leaves = λ old stood.
          subst (λ (ts : List Track). Leaves s (Ok (outputs_with_fewer (length_of (plain_thinning c.args.thinning.now)) (map plain_track ts))) old now) c.deref.ensures.value
          (subst (λ (length : ℕ). Leaves s (Ok (outputs_with_fewer length (map plain_track tracks))) old now) c.length_of.ensures.value
          (first_leaves s (thin_outputs e tracks) (counts_output e (map plain_track tracks) ∷ []) old now failed.comes (failed.leaves old stood)));
      later = failed.later;
    })

-- all stand, but the counts are not made
pub returns-in_err-text : goal.returns-in_err-text
returns-in_err-text g c =
    let now = g.S.Shelf.outputs c.put_tracks.new.shelf in
    let tracks = c.deref.result.now in
    let e = c.length_of.result in
    let more = counts_output e (map plain_track tracks) ∷ [] in
    let p = err_from_is_err_and c.from_residual-in_err-text.result c.from_residual-in_err-text.ensures.1 in
    rw (p.1, p.2) (record {
      comes = tt;
      write = memory_is_no_write;
      leaves = λ old stood.
          subst (λ (ts : List Track). Leaves status.OutOfMemory (Ok (outputs_with_fewer (length_of (plain_thinning c.args.thinning.now)) (map plain_track ts))) old now) c.deref.ensures.value
          (subst (λ (length : ℕ). Leaves status.OutOfMemory (Ok (outputs_with_fewer length (map plain_track tracks))) old now) c.length_of.ensures.value
          (second_leaves (Err status.OutOfMemory) (thin_outputs e tracks) more old now tt
          (nothing_put (Ok more) (old ++ thin_outputs e tracks) now (c.in_ok-kept.ensures.put old stood))));
      later = c.put_tracks.ensures.later;
    })

pub returns-clause-leaves : goal.returns-clause-leaves
returns-clause-leaves g c = λ old stood.
    let now = g.S.Shelf.outputs c.put.new.shelf in
    let lone = c.args.lone.now in
    let tracks = c.deref.result.now in
    let e = c.length_of.result in
    let r = c.put.result in
    let counts : output (codes "-") c.deref-2.result.now ≡ counts_output e (map plain_track tracks) =
    counts_put e tracks c.len.result lone.nodes c.in_ok-kept.kept c.deref-2.result.now (c.deref-2.ensures.value ∙ c.in_ok-text.ensures) (omega (arith, c.len.ensures, lone.tracks.ok.0, ap (λ (ts : List Track). length ts) c.deref.ensures.value))
    (lone.counted ∙ sym (ap node_total c.deref.ensures.value)) c.in_ok-kept.ensures.kept in
    subst (λ (ts : List Track). Leaves (ended r) (Ok (outputs_with_fewer (length_of (plain_thinning c.args.thinning.now)) (map plain_track ts))) old now) c.deref.ensures.value
    (subst (λ (length : ℕ). Leaves (ended r) (Ok (outputs_with_fewer length (map plain_track tracks))) old now) c.length_of.ensures.value
    (second_leaves r (thin_outputs e tracks) (counts_output e (map plain_track tracks) ∷ []) old now c.put.ensures.comes
    (subst (λ (o : FileBytes). Leaves (ended r) (Ok (o ∷ [])) (old ++ thin_outputs e tracks) now) counts
    (c.put.ensures.leaves (old ++ thin_outputs e tracks) (c.in_ok-kept.ensures.put old stood)))))
