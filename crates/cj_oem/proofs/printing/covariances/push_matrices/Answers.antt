use Rattle.std.proofs.Common.{◌≡◌, ◌++◌, ◌∙◌, All, ap, map, subst, take_all, arith, rules, length}
use Rattle.std.specs.Prelude.{flat_map}
use Rattle.std.proofs.lemmas.Result.{IfOk-from_err}
use Rattle.cj_oem.specs.Canonical.{covariance_text}
use Rattle.cj_track.specs.Tracks.{plain_matrix}
use Rattle.cj_oem.proofs.TextLemmas.{all_more, part_more_of}
use Rattle.cj_oem.proofs.printing.covariances.push_matrices.Goals as goal

pub loop-matrix-preserved : goal.loop-matrix-preserved
loop-matrix-preserved c = record {
  text =
      part_more_of covariance_text plain_matrix c.args.matrices.now c.loop-matrix.matrix-index c.matrix-item.result c.args.text.now.items c.loop-matrix.text.items c.push_matrix.new.text.items
      (omega arith) (search rules) c.loop-matrix.invariant.text c.in_ok-push_matrix.ensures.text;
  kept =
      all_more (λ m. length m.values ≡ 21) c.args.matrices.now c.loop-matrix.matrix-index c.matrix-item.result (omega arith) (search rules) c.loop-matrix.invariant.kept
      c.in_ok-push_matrix.ensures.kept;
}

pub returns-clause-text : goal.returns-clause-text
returns-clause-text c =
    let all = take_all c.loop-matrix.matrix-index c.args.matrices.now c.loop-matrix-test.false in
    c.loop-matrix.invariant.text ∙ ap (λ ms. c.args.text.now.items ++ flat_map covariance_text (map plain_matrix ms)) all

pub returns-clause-kept : goal.returns-clause-kept
returns-clause-kept c =
    let all = take_all c.loop-matrix.matrix-index c.args.matrices.now c.loop-matrix-test.false in
    subst (All (λ m. length m.values ≡ 21)) all c.loop-matrix.invariant.kept

pub returns-in_err-push_matrix-clause-text : goal.returns-in_err-push_matrix-clause-text
returns-in_err-push_matrix-clause-text c = IfOk-from_err c.from_residual.result _ c.from_residual.ensures.0

pub returns-in_err-push_matrix-clause-kept : goal.returns-in_err-push_matrix-clause-kept
returns-in_err-push_matrix-clause-kept c = IfOk-from_err c.from_residual.result _ c.from_residual.ensures.0
