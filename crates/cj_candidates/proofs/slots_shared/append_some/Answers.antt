use Rattle.std.proofs.Common.{◌≡◌, ℕ, take, subst, arith}
use Rattle.cj_case.specs.Problems.{plain_problem}
use Rattle.cj_candidates.proofs.SlotRunLemmas.{grown, grown_by, not_whole, on_ok, roots_with}
use Rattle.cj_candidates.proofs.slots_shared.append_some.Goals as goal

pub returns-in-Ok-clause-few : goal.returns-in-Ok-clause-few
returns-in-Ok-clause-few c =
    let old = c.args.roots.now in
    let new = c.roots_of_slot-appended.new.roots in
    let kept = subst (λ (k : ℕ). take k new.items ≡ old.items) old.ok.0 c.roots_of_slot-appended.ensures.kept in
    omega (arith, old.ok.0, new.ok.0, grown_by old.items new.items (roots_with (plain_problem c.args.problem.now) c.args.slot c.args.pairs.now) kept c.in-Ok.ensures.ok)

pub returns-in-Err-clause-few : goal.returns-in-Err-clause-few
returns-in-Err-clause-few c =
    let old = c.args.roots.now in
    let new = c.roots_of_slot-appended.new.roots in
    let kept = subst (λ (k : ℕ). take k new.items ≡ old.items) old.ok.0 c.roots_of_slot-appended.ensures.kept in
    on_ok c.stopped_by.result _
    (omega (arith, old.ok.0, new.ok.0, grown old.items new.items (roots_with (plain_problem c.args.problem.now) c.args.slot c.args.pairs.now) kept c.in-Err.ensures.err))

pub returns-in-Err-clause-added : goal.returns-in-Err-clause-added
returns-in-Err-clause-added c = not_whole c.stopped_by.result _ c.stopped_by.ensures

pub returns-in-Err-clause-room : goal.returns-in-Err-clause-room
returns-in-Err-clause-room c = not_whole c.stopped_by.result _ c.stopped_by.ensures
