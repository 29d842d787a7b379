use Rattle.std.proofs.Common.{◌≡◌, List, [], ◌∷◌, ◌++◌, sym, ap, ◌∙◌, subst}
use Rattle.std.proofs.lemmas.List.{length-map}
use Rattle.crossbeam_deque.specs.Handles.{worker_deque, worker_view}
use Rattle.cj_case.specs.declared.cell.Cell.{Cell}
use Rattle.cj_pool.specs.declared.account.Account.{Account}
use Rattle.cj_pool.specs.Passes.{deques, takens, deques_of, around, TookOne}
use Rattle.cj_pool.proofs.PassLemmas.{below_of, above_of, took_own}
use Rattle.cj_pool.proofs.PickLemmas.{found_around}
use Rattle.std.proofs.Common.{refl}
use Rattle.cj_pool.proofs.finding.find.Goals as goal

pub steal_next-requires-clause-below : goal.steal_next-requires-clause-below
steal_next-requires-clause-below g c =
    let s = c.args.station.now in
    let place = length-map s.below.items (λ p. (p.rows, p.heap)) ∙ c.requires.place in
    (below_of (deques s.below.items) (worker_deque s.own) (deques s.above.items) (deques_of c.args.thieves.now) s.number place c.requires.deques, c.requires.below)

pub steal_next-requires-clause-above : goal.steal_next-requires-clause-above
steal_next-requires-clause-above g c =
    let s = c.args.station.now in
    let place = length-map s.below.items (λ p. (p.rows, p.heap)) ∙ c.requires.place in
    (above_of (deques s.below.items) (worker_deque s.own) (deques s.above.items) (deques_of c.args.thieves.now) s.number place c.requires.deques, c.requires.above)

pub returns-in-Some-clause-taken : goal.returns-in-Some-clause-taken
returns-in-Some-clause-taken g c =
    let s = c.args.station.now in
    let own = worker_view s.own in
    let rule = ap (λ (v : Account). v.taken) ((c.in-Some.ensures {u = tt}).rule) in
    let taken : (worker_view c.pop.new.own).taken ≡ own.taken ++ c.into_cell.result ∷ [] = rule ∙ ap (λ (x : Cell). own.taken ++ x ∷ []) (sym c.into_cell.ensures.cell) in
    subst (λ (xs : List Cell). TookOne (around (takens s.below.items) own.taken (takens s.above.items)) (around (takens s.below.items) xs (takens s.above.items)) c.into_cell.result) (sym taken)
    (took_own (takens s.below.items) own.taken (takens s.above.items) c.into_cell.result)

pub returns-clause-taken : goal.returns-clause-taken
returns-clause-taken g c =
    let s = c.args.station.now in
    let own = (c.in_default.ensures {u = tt}).rule.0 in
    found_around c.steal_next.result (takens s.below.items) (takens c.steal_next.new.below.items) (worker_view s.own).taken (worker_view c.pop.new.own).taken (takens s.above.items) (takens c.steal_next.new.above.items)
    (ap (λ (v : Account). v.taken) own) c.steal_next.ensures.taken

pub returns-clause-tree : goal.returns-clause-tree
returns-clause-tree g c = c.steal_next.ensures.tree

pub returns-in-Some-clause-above : goal.returns-in-Some-clause-above
returns-in-Some-clause-above g c = (refl, c.requires.above)

pub returns-in-Some-clause-below : goal.returns-in-Some-clause-below
returns-in-Some-clause-below g c = (refl, c.requires.below)

pub returns-in-Some-clause-none : goal.returns-in-Some-clause-none
returns-in-Some-clause-none g c = tt

pub returns-in-Some-clause-number : goal.returns-in-Some-clause-number
returns-in-Some-clause-number g c = refl

pub returns-in-Some-clause-place : goal.returns-in-Some-clause-place
returns-in-Some-clause-place g c = c.requires.place

pub returns-in-Some-clause-tree : goal.returns-in-Some-clause-tree
returns-in-Some-clause-tree g c = c.into_cell.ensures.tree
