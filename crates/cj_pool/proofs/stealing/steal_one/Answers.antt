use Rattle.std.proofs.Common.{[], ◌∷◌, ◌++◌, sym, ap, ◌∙◌, subst, arith}
use Rattle.crossbeam_deque.specs.Handles.{view, stealer_deque}
use Rattle.cj_pool.specs.declared.account.Account.{Account}
use Rattle.cj_pool.specs.Passes.{IsReady}
use Rattle.cj_pool.proofs.PassLemmas.{same_at, lengths, map_set_same, map_set_other, map_get}
use Rattle.cj_pool.proofs.stealing.steal_one.Goals as goal

pub steal-requires : goal.steal-requires
steal-requires g c =
    let p = c.index_mut.result.now in
    let ps = c.args.passes.now.items in
    let len = lengths (λ q. (q.rows, q.heap)) stealer_deque ps c.args.thieves.now c.requires.deques in
    let ready = subst IsReady (sym c.index_mut.ensures.value) (c.requires.ready c.args.at p c.requires.at) in
    let here = same_at (λ q. (q.rows, q.heap)) stealer_deque ps c.args.thieves.now c.args.at p c.index-thieves-at.result c.requires.deques c.requires.at (omega (arith, len, c.requires.at)) c.index_mut.ensures.value c.index-thieves-at.is in
    (omega (arith, ready.parts), (ap (λ k. k.0) here, ap (λ k. k.1) here, ready.hand, ready.spare))

pub returns-in-Success-clause-deques : goal.returns-in-Success-clause-deques
returns-in-Success-clause-deques g c = map_set_same (λ p. (p.rows, p.heap)) c.args.passes.now.items c.args.at c.index_mut.result.now c.steal.new.pass c.requires.at c.index_mut.ensures.value (λ i. (c.steal.ensures.same.0 i, c.steal.ensures.same.1 i))

pub returns-in-Empty-clause-deques : goal.returns-in-Empty-clause-deques
returns-in-Empty-clause-deques g c = map_set_same (λ p. (p.rows, p.heap)) c.args.passes.now.items c.args.at c.index_mut.result.now c.steal.new.pass c.requires.at c.index_mut.ensures.value (λ i. (c.steal.ensures.same.0 i, c.steal.ensures.same.1 i))

pub returns-in-Retry-clause-deques : goal.returns-in-Retry-clause-deques
returns-in-Retry-clause-deques g c = map_set_same (λ p. (p.rows, p.heap)) c.args.passes.now.items c.args.at c.index_mut.result.now c.steal.new.pass c.requires.at c.index_mut.ensures.value (λ i. (c.steal.ensures.same.0 i, c.steal.ensures.same.1 i))

pub returns-in-Empty-clause-taken : goal.returns-in-Empty-clause-taken
returns-in-Empty-clause-taken g c =
    map_set_same (λ p. (view {V = Account} p).taken) c.args.passes.now.items c.args.at c.index_mut.result.now c.steal.new.pass c.requires.at c.index_mut.ensures.value (ap (λ (v : Account). v.taken) ((c.in-Empty.ensures {u = tt}).rule))

pub returns-in-Retry-clause-taken : goal.returns-in-Retry-clause-taken
returns-in-Retry-clause-taken g c =
    map_set_same (λ p. (view {V = Account} p).taken) c.args.passes.now.items c.args.at c.index_mut.result.now c.steal.new.pass c.requires.at c.index_mut.ensures.value (ap (λ (v : Account). v.taken) ((c.in-Retry.ensures {u = tt}).rule))

pub returns-in-Success-clause-taken : goal.returns-in-Success-clause-taken
returns-in-Success-clause-taken g c =
    let rule = ap (λ (v : Account). v.taken) ((c.in-Success.ensures {u = tt}).rule) in
    let before = map_get (λ p. (view {V = Account} p).taken) c.args.passes.now.items c.args.at c.index_mut.result.now [] c.requires.at c.index_mut.ensures.value in
    map_set_other (λ p. (view {V = Account} p).taken) c.args.passes.now.items c.args.at c.steal.new.pass _ (rule ∙ (λ i. sym before i ++ (sym c.into_cell.ensures.cell) i ∷ []))
