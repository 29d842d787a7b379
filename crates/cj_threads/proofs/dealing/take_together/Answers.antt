use Rattle.std.proofs.Common.{All, subst}
use Rattle.std.specs.Prelude.{IfOk, IfSome}
use Rattle.std.proofs.lemmas.List.Elements.{All-append, All-pop, All-same}
use Rattle.cj_threads.specs.Dealing.{IsDone}
use Rattle.cj_threads.proofs.dealing.take_together.Goals as goal

pub loop-run-preserved : goal.loop-run-preserved
loop-run-preserved g c =
    let P = IsDone g.F.Fn c.args.f.now c.args.count in
    let popped = All-pop (λ run. IfOk run (λ done. All P done.items)) c.loop-run.runs.items c.pop.new.self.items c.pop.result c.pop.ensures.items c.loop-run.invariant.runs in
    let this = subst (λ r. IfOk r (λ done. All P done.items)) c.in_ok-run.was
    (subst (λ r. IfSome r (λ run. IfOk run (λ done. All P done.items))) c.in-Some.is popped.1) in
    record {
      runs = popped.0;
      all = All-same P _ _ c.in_ok-append.ensures.items (All-append P c.loop-run.all.items c.in_ok-run.field-0.items c.loop-run.invariant.all this);
    }
