use Rattle.std.proofs.Common.{◌≡◌, ◌∙◌, ◌+◌, suc, ap, arith, get_or, length, vec_len, refl, subst, sym}
use Rattle.std.specs.Prelude.{None}
use Rattle.std.specs.Fn.{FnReturns}
use Rattle.cj_threads.proofs.DealingLemmas.{each_more}
use Rattle.cj_threads.proofs.dealing.map_dealt.Goals as goal

pub loop-place-init : goal.loop-place-init
loop-place-init g c =
    let gives = c.into_iter-place-iterator.ensures.into_iter_gives in
    let places = c.in_ok-place-items.place-items in
    let none = c.in_ok-outputs.ensures.len in
    record {
      count = omega (arith, none, ap length gives.0, c.in_ok-place-items.ensures.len);
      len = gives.1 ∙ places.ok.0 ∙ sym (ap length gives.0);
      left = λ k x is. subst (λ n. FnReturns g.F.Fn c.args.f.now (n, tt) x) {x = k} (omega (arith, none))
          (c.in_ok-place-items.ensures.hold k x (ap (λ ps. get_or ps k None) (sym gives.0) ∙ is));
      each = λ k d lt. absurd (omega (arith, lt, none));
    }

pub output_at-output-requires-clause-callable : goal.output_at-output-requires-clause-callable
output_at-output-requires-clause-callable g c =
    c.requires c.len.result (omega (arith, c.len.ensures, c.loop-place.invariant.count, ap length c.in-Some.ensures.steps.0))

pub output_at-output-requires-clause-holds : goal.output_at-output-requires-clause-holds
output_at-output-requires-clause-holds g c = λ x is.
    subst (λ n. FnReturns g.F.Fn c.args.f.now (n, tt) x) {x = vec_len c.loop-place.outputs + 0} (omega (arith, c.len.ensures))
    (c.loop-place.invariant.left 0 x (ap (λ ps. get_or ps 0 None) c.in-Some.ensures.steps.0 ∙ is))

pub loop-place-preserved : goal.loop-place-preserved
loop-place-preserved g c =
    let i = c.loop-place.invariant in
    let outputs = c.loop-place.outputs in
    let steps = c.in-Some.ensures.steps in
    let grown : vec_len c.push.new.self ≡ vec_len outputs + 1 = c.in_ok-push.ensures.len in
    let came = subst (λ n. FnReturns g.F.Fn c.args.f.now (n, tt) c.output_at-output.result) c.len.ensures c.output_at-output.ensures in
    record {
      count = omega (arith, i.count, grown, ap length steps.0);
      len = omega (arith, i.len, steps.1, ap length steps.0);
      left = λ k x is. subst (λ n. FnReturns g.F.Fn c.args.f.now (n, tt) x) {x = vec_len outputs + suc k} (omega (arith, grown))
          (i.left (suc k) x (ap (λ ps. get_or ps (suc k) None) steps.0 ∙ is));
      each = λ k d lt. subst (λ xs. FnReturns g.F.Fn c.args.f.now (k, tt) (get_or xs k d)) (sym c.in_ok-push.ensures.items)
          (each_more g.F.Fn c.args.f.now (vec_len outputs) outputs.items c.output_at-output.result (sym outputs.ok.0) came i.each k d (omega (arith, lt, grown)));
    }

pub returns : goal.returns
returns g c =
    let i = c.loop-place.invariant in
    let none = c.in-None.ensures.steps.0 in
    record {
      len = omega (arith, i.count, i.len, none);
      each = λ k d lt. (refl, i.each k d (omega (arith, lt, i.count, i.len, none)));
    }
