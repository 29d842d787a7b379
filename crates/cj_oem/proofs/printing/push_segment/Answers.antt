use Rattle.std.proofs.Common.{◌≡◌, ◌++◌, ◌∙◌, All, ap, length, map, subst}
use Rattle.std.specs.Prelude.{flat_map}
use Rattle.std.proofs.lemmas.Result.{IfOk-from_err, on_ok_weaker}
use Rattle.cj_track.specs.Nodes.{AreNodes}
use Rattle.cj_track.specs.Tracks.{plain_matrix, plain_node}
use Rattle.cj_oem.specs.Canonical.{covariances_text, row_text, segment_text}
use Rattle.cj_oem.proofs.TextLemmas.{joined, joined_ok}
use Rattle.cj_oem.proofs.printing.push_segment.Goals as goal

pub returns-clause-text : goal.returns-clause-text
unfolding segment_text
returns-clause-text c =
    let old = c.args.text.now.items in
    let nodes = c.in_ok-push_nodes.ensures ∙ ap (λ ns. c.push_metadata.new.text.items ++ flat_map row_text (map plain_node ns)) c.as_slice.ensures.value in
    joined_ok c.push_covariances.result old _ _ _ _ (joined old _ _ _ _ c.in_ok-push_metadata.ensures nodes)
    (on_ok_weaker c.push_covariances.result (λ e. e ∙ ap (λ ms. c.push_nodes.new.text.items ++ covariances_text (map plain_matrix ms))
    c.as_slice-2.ensures) c.push_covariances.ensures.text)

pub returns-clause-nodes : goal.returns-clause-nodes
returns-clause-nodes c =
    on_ok_weaker c.push_covariances.result (λ _. subst AreNodes c.as_slice.ensures.value c.as_slice.ensures.kept) c.push_covariances.ensures.kept

pub returns-clause-matrices : goal.returns-clause-matrices
returns-clause-matrices c =
    on_ok_weaker c.push_covariances.result (subst (All (λ m. length m.values ≡ 21)) c.as_slice-2.ensures) c.push_covariances.ensures.kept

pub returns-in_err-push_metadata-clause-text : goal.returns-in_err-push_metadata-clause-text
returns-in_err-push_metadata-clause-text c = IfOk-from_err c.from_residual.result _ c.from_residual.ensures.0

pub returns-in_err-push_metadata-clause-nodes : goal.returns-in_err-push_metadata-clause-nodes
returns-in_err-push_metadata-clause-nodes c = IfOk-from_err c.from_residual.result _ c.from_residual.ensures.0

pub returns-in_err-push_metadata-clause-matrices : goal.returns-in_err-push_metadata-clause-matrices
returns-in_err-push_metadata-clause-matrices c = IfOk-from_err c.from_residual.result _ c.from_residual.ensures.0

pub returns-in_err-push_nodes-clause-text : goal.returns-in_err-push_nodes-clause-text
returns-in_err-push_nodes-clause-text c = IfOk-from_err c.from_residual-in_err-push_nodes.result _ c.from_residual-in_err-push_nodes.ensures.0

pub returns-in_err-push_nodes-clause-nodes : goal.returns-in_err-push_nodes-clause-nodes
returns-in_err-push_nodes-clause-nodes c = IfOk-from_err c.from_residual-in_err-push_nodes.result _ c.from_residual-in_err-push_nodes.ensures.0

pub returns-in_err-push_nodes-clause-matrices : goal.returns-in_err-push_nodes-clause-matrices
returns-in_err-push_nodes-clause-matrices c = IfOk-from_err c.from_residual-in_err-push_nodes.result _ c.from_residual-in_err-push_nodes.ensures.0
