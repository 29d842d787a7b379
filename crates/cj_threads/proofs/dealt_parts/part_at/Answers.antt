use Rattle.std.proofs.Common.{◌∙◌, ◌*◌, ap, take}
use Rattle.std.proofs.lemmas.List.{take_min}
use Rattle.cj_threads.proofs.DealingLemmas.{is_part}
use Rattle.cj_threads.proofs.dealt_parts.part_at.Goals as goal

pub returns : goal.returns
returns g c =
    let rest = c.split_at.result.1.now in
    let size = c.args.size in
    let is = c.split_at-2.ensures.front ∙ ap (λ k. take k rest) c.min.ensures ∙ take_min size rest ∙ ap (take size) c.split_at.ensures.back in
    record { value = is; part = is_part c.args.list.now c.split_at-2.result.0.now (c.args.number * size) size is }
