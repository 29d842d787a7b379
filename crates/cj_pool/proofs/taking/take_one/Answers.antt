use Rattle.std.proofs.Common.{subst, ◌≡◌, ◌++◌, ◌∷◌, [], List, ap, ◌∙◌, sym}
use Rattle.std.specs.Prelude.{OnOk}
use Rattle.std.proofs.lemmas.Result.{on_ok_weaker}
use Rattle.cj_pool.specs.Hands.{HandSeen, Accounts, settled_share}
use Rattle.cj_pool.specs.Stations.{IsStationOf}
use Rattle.cj_pool.proofs.TakeLemmas.{station_of}
use Rattle.cj_case.specs.declared.cell.Cell.{Cell}
use Rattle.cj_case.specs.Problems.{plain_problem}
use Rattle.cj_ledger.specs.Shares.{ShareSeen, IsOf}
use Rattle.cj_pool.specs.Refined.{in_runs}
use Rattle.cj_pool.proofs.taking.take_one.Goals as goal

pub returns-clause-station : goal.returns-clause-station
returns-clause-station g c =
    let h = c.hand.inside in
    let i = c.hand.invariant in
    let is = subst (λ (x : HandSeen). IsStationOf g.K.Run.workers x h.station) c.hand.view_is
    (station_of g.K.Run.workers h.station h.looker h.kept.items h.leaves.items h.share h.uncounted h.wants i.1 i.2 i.3 i.4 i.5.deques) in
    on_ok_weaker c.add.result (λ pushed. (h.station, pushed, is)) c.add.ensures.stations

pub close-requires : goal.close-requires
close-requires g c = subst (λ (h : HandSeen). IsOf c.args.ledger.now h.share) (sym c.hand.view_is) c.requires

pub returns-clause-shares : goal.returns-clause-shares
returns-clause-shares g c =
    let e = c.close.ensures in
    let counted : c.close.new.share ≡ settled_share c.args.hand = (λ i. record { ledger = e.ledger i; count = e.count i })
    ∙ ap settled_share c.hand.view_is in
    subst (λ (s : ShareSeen). OnOk c.add.result (c.add.new.self.shares.items ≡ c.args.parts.now.shares.items ++ s ∷ [])) counted c.add.ensures.shares

pub returns-clause-leaves : goal.returns-clause-leaves
returns-clause-leaves g c =
    subst (λ (h : HandSeen). OnOk c.add.result (in_runs c.add.new.self.runs.items ≡ in_runs c.args.parts.now.runs.items ++ h.closed))
    c.hand.view_is c.add.ensures.leaves

pub returns-clause-kept : goal.returns-clause-kept
returns-clause-kept g c =
    subst (λ (cells : List Cell). OnOk c.add.result (c.add.new.self.kept.items ≡ c.args.parts.now.kept.items ++ cells))
    (c.as_slice.ensures.value ∙ ap (λ (h : HandSeen). h.kept) c.hand.view_is) c.add.ensures.kept

pub returns-clause-account : goal.returns-clause-account
returns-clause-account g c = subst (Accounts (plain_problem g.K.Run.problem) g.K.Run.roots g.K.Run.workers) c.hand.view_is c.hand.invariant.5
