use Rattle.std.proofs.Common.{◌∙◌, refl, ap, List, arith}
use Rattle.std.proofs.lemmas.List.{length-map}
use Rattle.crossbeam_deque.specs.Handles.{view}
use Rattle.cj_case.specs.declared.cell.Cell.{Cell}
use Rattle.cj_pool.specs.declared.account.Account.{Account}
use Rattle.cj_pool.specs.Passes.{taken_at}
use Rattle.cj_pool.proofs.stealing.steal_round.Goals as goal

pub loop-at-init : goal.loop-at-init
loop-at-init g c = (refl, c.requires.ready, refl)

pub loop-at-preserved : goal.loop-at-preserved
loop-at-preserved g c =
    let i = c.loop-at.invariant in
    let e = c.in_default.ensures {u = tt} in
    (e.deques ∙ i.0, e.ready, e.taken ∙ i.2)

pub returns-in-Some : goal.returns-in-Some
returns-in-Some g c =
    let i = c.loop-at.invariant in
    let e = c.in-Some.ensures {u = tt} in
    let count = length-map c.args.passes.now.items (λ p. (view {V = Account} p).taken) in
    record {
      deques = e.deques ∙ i.0;
      ready = e.ready;
      taken = (
        c.loop-at.at,
        omega (arith, count, c.loop-at-test.true, c.len-at-end.ensures, c.args.passes.now.ok.0),
        e.taken ∙ ap (λ (ts : List (List Cell)). taken_at ts c.loop-at.at c.in-Some.cell) i.2,
      );
      tree = e.tree;
    }

pub returns : goal.returns
returns g c = let i = c.loop-at.invariant in record { deques = i.0; ready = i.1; taken = i.2; tree = tt }
