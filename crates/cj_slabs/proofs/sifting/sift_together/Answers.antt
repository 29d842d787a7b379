use Rattle.std.proofs.Common.{◌<◌, refl}
use Rattle.std.proofs.lemmas.Result.{IfOk-weaker}
use Rattle.cj_case.specs.Problems.{plain_problem}
use Rattle.cj_case.specs.Slots.{slot_count}
use Rattle.cj_threads.proofs.DealingLemmas.{all_of_part, parts_together}
use Rattle.cj_slabs.specs.Slabs.{AreOutcomes}
use Rattle.cj_slabs.proofs.sifting.sift_together.Goals as goal

pub map_parts-requires-clause-accepts : goal.map_parts-requires-clause-accepts
map_parts-requires-clause-accepts g c = λ _ _ some is.
    let window = c.args.problem.now.window in
    (c.requires.measured, c.requires.sought, c.requires.limit, all_of_part (λ slot. slot < slot_count window.first.micros window.last.micros) c.args.slots.now some.now c.requires.exist is)

pub returns : goal.returns
returns g c =
    let case = plain_problem c.args.problem.now in
    IfOk-weaker c.map_parts.result _ _
    (λ outcomes each. parts_together _ _ (AreOutcomes case) refl
    (λ some others outcome more call so_far. (some.now, others, refl, call.met, so_far)) c.args.slots.now outcomes.items each)
    c.map_parts.ensures.each
