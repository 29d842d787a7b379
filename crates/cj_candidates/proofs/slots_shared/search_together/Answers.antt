use Rattle.std.proofs.Common.{◌<◌}
use Rattle.std.proofs.lemmas.Result.{IfOk-weaker}
use Rattle.cj_case.specs.Problems.{plain_problem}
use Rattle.cj_threads.proofs.DealingLemmas.{all_of_part, parts_together}
use Rattle.cj_candidates.specs.SlotRuns.{AreFoundIn, sought_in}
use Rattle.cj_candidates.proofs.SlotRunLemmas.{both_found, none_found}
use Rattle.cj_candidates.proofs.slots_shared.search_together.Goals as goal

pub map_parts-requires-clause-accepts : goal.map_parts-requires-clause-accepts
map_parts-requires-clause-accepts g c = λ _ _ some is.
    (all_of_part (λ slot. slot < c.args.ground.now.slots) c.args.slots.now some.now c.requires.exist is, c.requires.limit)

pub returns : goal.returns
returns g c =
    let case = plain_problem c.args.ground.now.problem.now in
    IfOk-weaker c.map_parts.result _ _
    (λ runs each. parts_together _ _ (AreFoundIn case (sought_in c.args.ground.now)) (none_found case (sought_in c.args.ground.now))
    (λ some others run more call so_far. both_found case (sought_in c.args.ground.now) some.now others run more call.met so_far) c.args.slots.now runs.items each)
    c.map_parts.ensures.each
