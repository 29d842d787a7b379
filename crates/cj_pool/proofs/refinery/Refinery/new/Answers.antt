use Rattle.std.proofs.Common.{◌≡◌, length, sym, ap, ◌∙◌, subst, arith}
use Rattle.std.proofs.lemmas.List.{length-map}
use Rattle.std.proofs.lemmas.Result.{err_from_is_err_and}
use Rattle.cj_case.specs.Problems.{plain_problem}
use Rattle.cj_case.specs.declared.problem.Problem.{Problem}
use Rattle.cj_ledger.specs.Shares.{ShareSeen, IsOf, IsNew}
use Rattle.cj_pool.specs.Hands.{HandSeen}
use Rattle.cj_pool.specs.RootLists.{AreRoots}
use Rattle.cj_pool.specs.Stations.{own_deque, own_deques}
use Rattle.cj_pool.proofs.SeatLemmas.{all_of_map, share_sum}
use Rattle.std.proofs.Common.{List, get_or, refl}
use Rattle.std.specs.List.{range_with_len}
use Rattle.cj_case.specs.declared.cell.Cell.{Cell}
use Rattle.cj_ledger.specs.Counts.{fresh}
use Rattle.cj_pool.specs.Stations.{AreDealt}
use Rattle.cj_pool.proofs.refinery.Refinery.new.Goals as goal

pub invariant_of-refinery : goal.invariant_of-refinery
invariant_of-refinery g c =
    let r = c.requires in
    let stations = c.in_ok-stations.stations in
    let thieves : length c.in_ok-thieves_of.field-0.items ≡ length stations.items =
    sym (length-map c.in_ok-thieves_of.field-0.items _) ∙ ap length c.in_ok-thieves_of.ensures ∙ length-map c.deref-2.result.now own_deque ∙ ap length c.deref-2.ensures.value in
    let same_roots : length c.args.roots.items ≡ length g.K.Run.roots = ap length r.roots in
    let count : c.len.result ≡ length g.K.Run.roots = omega (arith, c.len.ensures, c.args.roots.ok.0, same_roots) in
    let opening : c.in_ok-ledger.ledger.opening ≡ record { roots = length g.K.Run.roots; shares = g.K.Run.workers } =
    c.in_ok-ledger.ensures.opening ∙ (λ i. record { roots = count i; shares = r.workers i }) in (
      r.problem,
      subst (λ (p : Problem). AreRoots (plain_problem p) g.K.Run.roots) r.problem
          (subst (AreRoots (plain_problem c.args.problem.now)) r.roots r.are_roots),
      omega (arith, r.few_roots, same_roots),
      r.few_leaves,
      omega (arith, r.some, r.workers),
      omega (arith, r.few_workers, r.workers),
      omega (arith, thieves, c.in_ok-stations.ensures.len, r.workers),
      opening,
    )

pub returns-clause-hands : goal.returns-clause-hands
returns-clause-hands g c k d lt =
    let hands = c.in_ok-hands.ensures in
    let shares = all_of_map (IsOf c.in_ok-ledger.ledger) (λ (h : HandSeen). h.share) c.in_ok-hands.hands.items c.in_ok-ledger.shares.items
    hands.shares c.in_ok-ledger.ensures.mine in
    (hands.deques k d lt ∙ sym (ap own_deques c.deref-2.ensures.value) ∙ sym c.in_ok-thieves_of.ensures, shares k d lt)

pub returns-clause-fresh : goal.returns-clause-fresh
returns-clause-fresh g c k d lt =
    let hands = c.in_ok-hands.ensures in
    let shares = all_of_map (IsNew c.in_ok-ledger.ledger) (λ (h : HandSeen). h.share) c.in_ok-hands.hands.items c.in_ok-ledger.shares.items
    hands.shares c.in_ok-ledger.ensures.new in
    record { unstarted = hands.unstarted k d lt; share = shares k d lt; opening = hands.opening k d lt }

pub returns-clause-shares : goal.returns-clause-shares
returns-clause-shares g c =
    share_sum (λ (h : HandSeen). h.share) (λ (s : ShareSeen). s.count.roots) c.in_ok-hands.hands.items c.in_ok-ledger.shares.items c.in_ok-hands.ensures.shares ∙
    c.in_ok-ledger.ensures.roots ∙ omega (arith, c.len.ensures, c.args.roots.ok.0)

pub returns-in_err-ledger : goal.returns-in_err-ledger
returns-in_err-ledger g c =
    let p = err_from_is_err_and c.from_residual.result c.from_residual.ensures.1 in
    rw p.1 (record { seen = tt; hands = tt; numbers = tt; fresh = tt; shares = tt })

pub returns-in_err-stations : goal.returns-in_err-stations
returns-in_err-stations g c =
    let p = err_from_is_err_and c.from_residual-in_err-stations.result c.from_residual-in_err-stations.ensures.1 in
    rw p.1 (record { seen = tt; hands = tt; numbers = tt; fresh = tt; shares = tt })

pub returns-in_err-thieves_of : goal.returns-in_err-thieves_of
returns-in_err-thieves_of g c =
    let p = err_from_is_err_and c.from_residual-in_err-thieves_of.result c.from_residual-in_err-thieves_of.ensures.1 in
    rw p.1 (record { seen = tt; hands = tt; numbers = tt; fresh = tt; shares = tt })

pub returns-in_err-hands : goal.returns-in_err-hands
returns-in_err-hands g c =
    let p = err_from_is_err_and c.from_residual-in_err-hands.result c.from_residual-in_err-hands.ensures.1 in
    rw p.1 (record { seen = tt; hands = tt; numbers = tt; fresh = tt; shares = tt })

pub opened-requires-clause-roots : goal.opened-requires-clause-roots
opened-requires-clause-roots g c = λ κs outlive.
    let r = c.requires in (
      c.deref.ensures.value ∙ r.roots,
      subst (λ (p : Problem). AreRoots (plain_problem p) c.deref.result.now) r.problem (subst (AreRoots (plain_problem c.args.problem.now)) (sym c.deref.ensures.value) r.are_roots),
    )

pub opened-requires-clause-workers : goal.opened-requires-clause-workers
opened-requires-clause-workers g c = λ κs outlive. (c.requires.workers, c.requires.some)

pub returns-clause-numbers : goal.returns-clause-numbers
returns-clause-numbers g c = c.in_ok-hands.ensures.numbers ∙ ap (range_with_len 0) (sym c.requires.workers)

pub returns-clause-seen : goal.returns-clause-seen
returns-clause-seen g c = (refl, sym c.requires.roots, refl, sym c.requires.workers)

pub seat-requires-clause-problem : goal.seat-requires-clause-problem
seat-requires-clause-problem g c = c.requires.problem

pub seat-requires-clause-roots : goal.seat-requires-clause-roots
seat-requires-clause-roots g c =
    let r = c.requires in
    subst (λ (p : Problem). AreRoots (plain_problem p) g.K.Run.roots) r.problem (subst (AreRoots (plain_problem c.args.problem.now)) r.roots r.are_roots)

pub seat-requires-clause-stations : goal.seat-requires-clause-stations
seat-requires-clause-stations g c = c.in_ok-stations.ensures.stations

pub seat-requires-clause-unused : goal.seat-requires-clause-unused
seat-requires-clause-unused g c = c.in_ok-stations.ensures.unused

pub seat-requires-clause-dealt : goal.seat-requires-clause-dealt
seat-requires-clause-dealt g c =
    subst (λ (rs : List Cell). AreDealt rs c.in_ok-stations.stations.items) (c.deref.ensures.value ∙ c.requires.roots) c.in_ok-stations.ensures.dealt

pub seat-requires-clause-len : goal.seat-requires-clause-len
seat-requires-clause-len g c = (c.in_ok-stations.ensures.len ∙ c.requires.workers, omega (arith, c.in_ok-ledger.ensures.len, c.in_ok-ledger.shares.ok.0, c.requires.workers))

pub seat-requires-clause-shares : goal.seat-requires-clause-shares
seat-requires-clause-shares g c = λ k d lt.
    let new = (c.in_ok-ledger.ensures.new k d lt).1 in
    let count = (get_or c.in_ok-ledger.shares.items k d).count in
    new ∙ ap (λ opening. fresh opening count.roots) (sym (ap (λ a. a.opening) new))
