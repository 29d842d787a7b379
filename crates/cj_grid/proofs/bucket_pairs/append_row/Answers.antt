use Rattle.std.proofs.Common.{◌≡◌, inl, ◌+◌, ◌<◌, length, sym, ap, ◌∙◌, arith, below_more}
use Rattle.cj_grid.specs.declared.entries.Entry.{Entry}
use Rattle.cj_grid.specs.Among.{AreFoundAt}
use Rattle.cj_grid.specs.Found.{entry_at}
use Rattle.cj_grid.proofs.EntryLemmas.{entered_more, entered_few}
use Rattle.cj_grid.proofs.PairingLemmas.{in_bucket, none_behind}
use Rattle.std.proofs.lemmas.Result.{IfOk-from_err}
use Rattle.cj_grid.proofs.BucketLemmas.{at_least}
use Rattle.cj_grid.proofs.bucket_pairs.append_row.Goals as goal

pub loop-own-init : goal.loop-own-init
loop-own-init g c = record {
  above = omega arith;
  upto = omega arith;
  touching = λ all. all;
  kept = λ a b has. has;
  found = λ k lt above. absurd (omega arith);
  no_fewer = omega arith;
  steps = omega arith;
}

pub object_of-other-requires : goal.object_of-other-requires
object_of-other-requires g c = (in_bucket _ _ _ _ (sym c.is_in_bucket.ensures ∙ c.loop-own-test.true)).0

pub loop-own-preserved : goal.loop-own-preserved
loop-own-preserved g c =
    let i = c.loop-own.invariant in
    let entries = c.args.entries.now in
    let at = c.args.at in
    let next = c.loop-own.next in
    let told = c.in_ok-append_pair.ensures in
    let own : c.entry_of-own.result ≡ entry_at entries at = c.entry_of-own.ensures in
    let test = in_bucket next (length entries) (entry_at entries next).bucket c.entry_of-own.result.bucket (sym c.is_in_bucket.ensures ∙ c.loop-own-test.true) in
    let more = entered_more (entry_at entries at).bucket entries next test.0 (test.1 ∙ ap (λ (e : Entry). e.bucket) own) in
    record {
      above = let low = i.above in omega arith;
      upto = let below = test.0 in omega arith;
      touching = λ all. told.touching (i.touching all);
      kept = λ a b has. told.kept a b (i.kept a b has);
      found = below_more (λ k. at < k → AreFoundAt c.args.objects.now entries at k c.append_pair.new.pairs.items) next
          (λ k lt above a b is_a is_b up touch. told.kept a b (i.found k lt above a b is_a is_b up touch))
          (λ above a b is_a is_b up touch. told.found a b up (inl (ap (λ (e : Entry). e.object) own ∙ sym is_a, c.object_of-other.ensures ∙ sym is_b)) touch);
      no_fewer = let so_far = i.no_fewer in let now = told.no_fewer in omega arith;
      steps = let so_far = i.steps in let now = told.one in omega arith;
    }

pub returns-in_err-append_pair-clause-steps : goal.returns-in_err-append_pair-clause-steps
returns-in_err-append_pair-clause-steps g c =
    let entries = c.args.entries.now in
    let at = c.args.at in
    let next = c.loop-own.next in
    let own : c.entry_of-own.result ≡ entry_at entries at = c.entry_of-own.ensures in
    let test = in_bucket next (length entries) (entry_at entries next).bucket c.entry_of-own.result.bucket (sym c.is_in_bucket.ensures ∙ c.loop-own-test.true) in
    let more = entered_more (entry_at entries at).bucket entries next test.0 (test.1 ∙ ap (λ (e : Entry). e.bucket) own) in
    let few = entered_few (entry_at entries at).bucket entries (next + 1) in
    let so_far = c.loop-own.invariant.steps in
    let now = c.append_pair.ensures.one in
    omega arith

pub returns-clause-found : goal.returns-clause-found
returns-clause-found g c k above share a b is_a is_b up touch =
    let entries = c.args.entries.now in
    let at = c.args.at in
    let own : c.entry_of-own.result ≡ entry_at entries at = c.entry_of-own.ensures in
    let before = none_behind entries at c.loop-own.next k c.entry_of-own.result.bucket c.requires.order c.loop-own.invariant.above share.0 (sym (ap (λ (e : Entry). e.bucket) own)) share.1
    (sym c.is_in_bucket.ensures ∙ c.loop-own-test.false) in
    c.loop-own.invariant.found k before above a b is_a is_b up touch

pub returns-clause-steps : goal.returns-clause-steps
returns-clause-steps g c =
    let few = entered_few (entry_at c.args.entries.now c.args.at).bucket c.args.entries.now c.loop-own.next in
    let so_far = c.loop-own.invariant.steps in
    omega arith

pub returns-clause-touching : goal.returns-clause-touching
returns-clause-touching g c = c.loop-own.invariant.touching

pub returns-clause-kept : goal.returns-clause-kept
returns-clause-kept g c = c.loop-own.invariant.kept

pub returns-clause-no_fewer : goal.returns-clause-no_fewer
returns-clause-no_fewer g c = c.loop-own.invariant.no_fewer

pub returns-in_err-append_pair-clause-touching : goal.returns-in_err-append_pair-clause-touching
returns-in_err-append_pair-clause-touching g c = IfOk-from_err c.from_residual.result _ c.from_residual.ensures.0

pub returns-in_err-append_pair-clause-kept : goal.returns-in_err-append_pair-clause-kept
returns-in_err-append_pair-clause-kept g c = IfOk-from_err c.from_residual.result _ c.from_residual.ensures.0

pub returns-in_err-append_pair-clause-found : goal.returns-in_err-append_pair-clause-found
returns-in_err-append_pair-clause-found g c = IfOk-from_err c.from_residual.result _ c.from_residual.ensures.0

pub returns-in_err-append_pair-clause-no_fewer : goal.returns-in_err-append_pair-clause-no_fewer
returns-in_err-append_pair-clause-no_fewer g c = at_least _ _ _ c.loop-own.invariant.no_fewer c.append_pair.ensures.no_fewer
