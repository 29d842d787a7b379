use Rattle.std.proofs.Common.{refl}
use Rattle.std.proofs.lemmas.Result.{err_from_is_err_and}
use Rattle.crossbeam_deque.specs.Handles.{worker_view}
use Rattle.cj_pool.proofs.StationLemmas.{ready_more, deques_more}
use Rattle.cj_pool.proofs.growing.swap_passes.Goals as goal

pub returns-clause-to_later : goal.returns-clause-to_later
returns-clause-to_later g c = (
  deques_more _ _ _ _ c.in_ok-push.ensures.items c.another.ensures.pass,
  λ ready. ready_more _ _ _ _ (worker_view c.args.later.now.own) c.in_ok-push.ensures.items ready c.another.ensures.pass c.another.ensures.right,
)

pub returns-clause-to_earlier : goal.returns-clause-to_earlier
returns-clause-to_earlier g c = (
  deques_more _ _ _ _ c.in_ok-push-2.ensures.items c.another-2.ensures.pass,
  λ ready. ready_more _ _ _ _ (worker_view c.args.earlier.now.own) c.in_ok-push-2.ensures.items ready c.another-2.ensures.pass
      c.another-2.ensures.right,
)

pub returns-in_err-push : goal.returns-in_err-push
returns-in_err-push g c =
    let p = err_from_is_err_and c.from_residual.result c.from_residual.ensures.1 in
    rw p.1 (record { numbers = (refl, refl); below = refl; above = refl; parts = tt; to_later = tt; to_earlier = tt; taken = tt })

pub returns-in_err-push-2 : goal.returns-in_err-push-2
returns-in_err-push-2 g c =
    let p = err_from_is_err_and c.from_residual-in_err-push-2.result c.from_residual-in_err-push-2.ensures.1 in
    rw p.1 (record { numbers = (refl, refl); below = refl; above = refl; parts = tt; to_later = tt; to_earlier = tt; taken = tt })

pub returns-clause-above : goal.returns-clause-above
returns-clause-above g c = refl

pub returns-clause-below : goal.returns-clause-below
returns-clause-below g c = refl

pub returns-clause-numbers : goal.returns-clause-numbers
returns-clause-numbers g c = (refl, refl)

pub returns-clause-parts : goal.returns-clause-parts
returns-clause-parts g c = ((c.another-2.ensures.same, c.another-2.ensures.left), (c.another.ensures.same, c.another.ensures.left))
