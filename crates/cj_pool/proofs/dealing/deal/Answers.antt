use Rattle.std.proofs.Common.{◌≡◌, length, arith}
use Rattle.std.specs.Prelude.{IfOk}
use Rattle.std.proofs.lemmas.List.{length-map}
use Rattle.std.proofs.lemmas.Result.{IfOk-weaker}
use Rattle.cj_pool.specs.Stations.{own_deque}
use Rattle.cj_pool.proofs.DealLemmas.{AreServed, all_served, served_deques, served_stations, served_unused, served_dealt}
use Rattle.cj_pool.proofs.dealing.deal.Given as run
use Rattle.std.proofs.lemmas.Result.{err_from_is_err_and}
use Rattle.cj_pool.proofs.dealing.deal.Goals as goal

are_served : (g : run.Over) (c : goal.After-all_served g) → IfOk c.all_served.result (λ new. AreServed c.args.roots.now c.args.workers c.args.stations.items new.items)
are_served g c =
    let old = c.args.stations in
    let given = c.in_ok-served in
    let long : length given.served.items ≡ length old.items = omega (arith, given.ensures.len, given.served.ok.0, old.ok.0) in
    IfOk-weaker c.all_served.result _ _ (λ new is.
    all_served c.args.roots.now c.args.workers old.items new.items given.served.items is long
    (λ i d e lt. given.ensures.like i d e (omega (arith, lt, old.ok.0))) (λ i d e lt. given.ensures.dealt i d e (omega (arith, lt, old.ok.0)))) c.all_served.ensures

pub returns-clause-stations : goal.returns-clause-stations
returns-clause-stations g c =
    IfOk-weaker c.all_served.result _ _ (λ new served.
    served_stations c.args.roots.now c.args.workers c.args.stations.items new.items served g.K.Run.workers c.requires.stations) (are_served g c)

pub returns-clause-deques : goal.returns-clause-deques
returns-clause-deques g c =
    IfOk-weaker c.all_served.result _ _ (λ new served. served_deques c.args.roots.now c.args.workers c.args.stations.items new.items served) (are_served g c)

pub returns-clause-unused : goal.returns-clause-unused
returns-clause-unused g c unused =
    IfOk-weaker c.all_served.result _ _ (λ new served. served_unused c.args.roots.now c.args.workers c.args.stations.items new.items served unused) (are_served g c)

pub returns-clause-dealt : goal.returns-clause-dealt
returns-clause-dealt g c =
    IfOk-weaker c.all_served.result _ _ (λ new served.
    served_dealt c.args.roots.now c.args.workers c.args.stations.items new.items served g.K.Run.workers c.requires.stations c.requires.len) (are_served g c)

pub serve_each-requires-clause-some : goal.serve_each-requires-clause-some
serve_each-requires-clause-some g c _ _ = c.requires.workers.1

pub serve_each-requires-clause-roots : goal.serve_each-requires-clause-roots
serve_each-requires-clause-roots g c _ _ = c.requires.roots

pub serve_each-requires-clause-unopened : goal.serve_each-requires-clause-unopened
serve_each-requires-clause-unopened g c _ _ = c.requires.unopened

pub returns-in_err-served-clause-unused : goal.returns-in_err-served-clause-unused
returns-in_err-served-clause-unused g c = λ unused. rw (err_from_is_err_and c.from_residual.result c.from_residual.ensures.1).1 tt

pub returns-in_err-served-clause-dealt : goal.returns-in_err-served-clause-dealt
returns-in_err-served-clause-dealt g c = rw (err_from_is_err_and c.from_residual.result c.from_residual.ensures.1).1 tt

pub serve_each-requires-clause-parts : goal.serve_each-requires-clause-parts
serve_each-requires-clause-parts g c _ _ = λ k d lt.
    let station = c.requires.stations k d lt in (
      omega (arith, station.parts, length-map c.args.stations.items own_deque, c.requires.len, c.requires.workers.0),
      omega (arith, station.all, c.requires.workers.0, c.requires.workers.1),
    )
