use Rattle.std.proofs.Common.{◌∙◌, ap, take}
use Rattle.std.proofs.lemmas.List.{take_min}
use Rattle.cj_checker.proofs.tiling_shared.keys_of_turn.Goals as goal

pub returns : goal.returns
returns c =
    let rest = c.split_at.result.1.now in
    c.split_at-2.ensures.front ∙ ap (λ k. take k rest) c.min.ensures ∙ take_min 4_096 rest ∙ ap (take 4_096) c.split_at.ensures.back
