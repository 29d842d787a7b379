use Rattle.std.proofs.Common.{ℕ, ◌+◌, ◌<◌, ◌≤◌, List, subst, arith, below_more}
use Rattle.std.specs.List.{sum_by}
use Rattle.std.proofs.lemmas.List.{take_all}
use Rattle.std.proofs.lemmas.List.Sums.{sum_by_more, sum_by_more_le}
use Rattle.cj_grid.specs.declared.entries.Entry.{Entry}
use Rattle.cj_grid.specs.Among.{AreFoundAt}
use Rattle.cj_grid.specs.Buckets.{entered_in}
use Rattle.cj_grid.specs.Found.{ShareBucket}
use Rattle.std.proofs.lemmas.Result.{IfOk-from_err}
use Rattle.cj_grid.proofs.BucketLemmas.{at_least}
use Rattle.cj_grid.proofs.bucket_pairs.append_shared.Goals as goal

pub loop-at-init : goal.loop-at-init
loop-at-init g c = record {
  touching = λ all. all;
  kept = λ a b has. has;
  found = λ j lt. absurd (omega arith);
  no_fewer = omega arith;
  steps = omega arith;
}

pub loop-at-preserved : goal.loop-at-preserved
loop-at-preserved g c =
    let i = c.loop-at.invariant in
    let entries = c.args.entries.now in
    let at = c.loop-at.at in
    let told = c.in_ok-append_row.ensures in
    let more = sum_by_more (λ (e : Entry). entered_in e.bucket entries) entries at (record { bucket = 0; object = 0 }) (omega arith) in
    record {
      touching = λ all. told.touching (i.touching all);
      kept = λ a b has. told.kept a b (i.kept a b has);
      found = below_more (λ j. (k : ℕ) → j < k → ShareBucket entries j k → AreFoundAt c.args.objects.now entries j k c.append_row.new.pairs.items) at
          (λ j lt k above share a b is_a is_b up touch. told.kept a b (i.found j lt k above share a b is_a is_b up touch))
          told.found;
      no_fewer = let so_far = i.no_fewer in let now = told.no_fewer in omega arith;
      steps = let so_far = i.steps in let now = told.steps in omega arith;
    }

pub returns-in_err-append_row-clause-steps : goal.returns-in_err-append_row-clause-steps
returns-in_err-append_row-clause-steps g c =
    let entries = c.args.entries.now in
    let so_far = c.loop-at.invariant.steps in
    let now = c.append_row.ensures.steps in
    let all = sum_by_more_le (λ (e : Entry). entered_in e.bucket entries) entries c.loop-at.at (record { bucket = 0; object = 0 }) (omega arith) in
    omega arith

pub returns-clause-touching : goal.returns-clause-touching
returns-clause-touching g c = c.loop-at.invariant.touching

pub returns-clause-kept : goal.returns-clause-kept
returns-clause-kept g c = c.loop-at.invariant.kept

pub returns-clause-no_fewer : goal.returns-clause-no_fewer
returns-clause-no_fewer g c = c.loop-at.invariant.no_fewer

pub returns-in_err-append_row-clause-touching : goal.returns-in_err-append_row-clause-touching
returns-in_err-append_row-clause-touching g c = IfOk-from_err c.from_residual.result _ c.from_residual.ensures.0

pub returns-in_err-append_row-clause-kept : goal.returns-in_err-append_row-clause-kept
returns-in_err-append_row-clause-kept g c = IfOk-from_err c.from_residual.result _ c.from_residual.ensures.0

pub returns-in_err-append_row-clause-found : goal.returns-in_err-append_row-clause-found
returns-in_err-append_row-clause-found g c = IfOk-from_err c.from_residual.result _ c.from_residual.ensures.0

pub returns-in_err-append_row-clause-no_fewer : goal.returns-in_err-append_row-clause-no_fewer
returns-in_err-append_row-clause-no_fewer g c = at_least _ _ _ c.loop-at.invariant.no_fewer c.append_row.ensures.no_fewer

pub append_row-requires : goal.append_row-requires
append_row-requires g c = record { exists = c.loop-at-test.true; order = c.requires.order; objects = c.requires.objects }

pub returns-clause-found : goal.returns-clause-found
returns-clause-found g c j k above share = let behind = share.0 in c.loop-at.invariant.found j (omega arith) k above share

pub returns-clause-steps : goal.returns-clause-steps
returns-clause-steps g c =
    let entries = c.args.entries.now in
    subst (λ (es : List Entry). c.loop-at.steps ≤ c.args.steps.now + sum_by (λ (e : Entry). entered_in e.bucket entries) es)
    (take_all c.loop-at.at entries (omega arith)) c.loop-at.invariant.steps
