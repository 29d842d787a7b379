use Rattle.std.proofs.Common.{◌≡◌, List, ℕ, ◌+◌, [], ◌++◌, ap, rules, ◌∙◌}
use Rattle.std.specs.Prelude.{flat_map}
use Rattle.std.specs.List.{range_with_len}
use Rattle.cj_gen.specs.Texts.{covariance_text, head_text, node_line, oem_of}
use Rattle.cj_gen.proofs.TextLemmas.{joined}
use Rattle.cj_gen.proofs.text.oem_text.Goals as goal

pub returns : goal.returns
unfolding oem_of
returns c =
    let start = c.in_ok-text.text.items in
    let empty : start ≡ [] = search rules in
    let whole = joined start _ _ _ _ (joined start _ _ _ _ c.in_ok-push_head.ensures c.in_ok-push_nodes.ensures) c.in_ok-push_covariance.ensures in
    let nodes = flat_map (node_line c.args.orbit.now) (range_with_len 0 (c.args.minutes + 1)) in
    whole ∙ ap (λ (t : List ℕ). t ++ (head_text c.args.number c.args.minutes ++ nodes ++ covariance_text)) empty
