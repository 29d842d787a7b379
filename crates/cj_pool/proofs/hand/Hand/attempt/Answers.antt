use Rattle.std.proofs.Common.{◌≡◌, ℕ, ◌+◌, ◌<◌, List, [], ◌∷◌, ◌++◌, inl, length, refl, sym, ap, ◌∙◌, subst, arith}
use Rattle.std.specs.Prelude.{All}
use Rattle.std.proofs.lemmas.List.{length-map}
use Rattle.crossbeam_deque.specs.Handles.{worker_view}
use Rattle.cj_case.specs.Problems.{plain_problem}
use Rattle.cj_case.specs.declared.cell.Cell.{Cell}
use Rattle.cj_ledger.specs.declared.count.Count.{Count}
use Rattle.cj_ledger.specs.Shares.{LedgerSeen, IsOf}
use Rattle.cj_pool.specs.declared.account.Account.{Account}
use Rattle.cj_pool.specs.Hands.{RefinerySeen, HandSeen}
use Rattle.cj_pool.specs.Narrow.{Narrow}
use Rattle.cj_pool.specs.Passes.{takens, around, deques_of}
use Rattle.cj_pool.specs.Tree.{InTree}
use Rattle.cj_pool.specs.Turns.{SetsCells}
use Rattle.cj_pool.proofs.AccountLemmas.{same_accounts, closed_accounts, split_accounts, kept_accounts}
use Rattle.cj_pool.proofs.NarrowLemmas.{narrow_front, narrow_half, narrow_both}
use Rattle.cj_pool.proofs.PickLemmas.{still_seated}
use Rattle.cj_pool.proofs.TreeLemmas.{tree_keeps, tree_halves}
use Rattle.cj_pool.proofs.TurnLemmas.{keeps_here, halved_here, closed_here, leaf_here, came_as, came_to, keeps_first, keeps_both, room, alone_settled, leaf_of, made_of, where_parted, without_of, still_of, sets_after, enough_of, leaves_enough}
use Rattle.cj_pool.proofs.hand.Hand.attempt.Goals as goal

pub look-requires : goal.look-requires
look-requires g c =
    let told = c.in-Some-picked.ensures {u = tt} in
    keeps_here (plain_problem g.K.Run.problem) (plain_problem c.self.inside.looker) g.K.Run.roots c.in-Some-picked.cell (ap plain_problem c.self.invariant.0) c.self.invariant.5.roots_are told.cell

pub invariant_of-self-in-Closed : goal.invariant_of-self-in-Closed
invariant_of-self-in-Closed g c =
    let i = c.self.inside in
    let inv = c.self.invariant in
    let case = plain_problem g.K.Run.problem in
    let case' = plain_problem i.looker in
    let roots = g.K.Run.roots in
    let problem = ap plain_problem inv.0 in
    let e = c.pick-picked.ensures in
    let told = c.in-Some-picked.ensures {u = tt} in
    let cell : Cell = c.in-Some-picked.cell in
    let look = c.in-Closed.ensures {u = tt} in
    let leaf = c.in-Closed.leaf in
    let kept = c.pick-picked.new.kept.items in
    let count = c.halted.ensures.count in (
      c.look.ensures.same ∙ inv.0,
      e.below.1,
      e.above.1,
      e.seated.0,
      e.place,
      closed_accounts case roots g.K.Run.workers _ _ inv.5 (record { number = e.number; problem = c.look.ensures.same; opening = e.own.0 })
          (λ j. around (e.below.0 j) (e.seated.1 j) (e.above.0 j))
          (record {
            leaf = leaf;
            came = came_as _ _ _ cell leaf.cell kept look.closed told.came;
            kind = closed_here case case' cell leaf.cell leaf.kind problem look.closed look.kind;
            closed = c.push_reserved.ensures.items ∙ (λ j. c.reserve.ensures.items j ++ leaf ∷ []);
            pushed = e.own.1;
          })
          (leaf_here case case' roots cell leaf problem told.cell look.closed look.kind)
          e.tree
          (narrow_front 26 kept cell told.narrow)
          (omega (arith, ap (λ (v : Count). v.closes) count))
          (ap (λ (v : Count). v.firsts) count),
    )

pub invariant_of-self-in_err-reserve : goal.invariant_of-self-in_err-reserve
invariant_of-self-in_err-reserve g c =
    let inv = c.self.invariant in (
      inv.0,
      inv.1,
      inv.2,
      inv.3,
      inv.4,
      same_accounts (plain_problem g.K.Run.problem) g.K.Run.roots g.K.Run.workers _ _ inv.5 (record { number = refl; problem = refl; opening = refl }) refl
          (record { taken = refl; closed = c.reserve.ensures.items; pushed = refl; kept = refl })
          (omega (arith, ap (λ (v : Count). v.closes) c.halted.ensures.count))
          (ap (λ (v : Count). v.firsts) c.halted.ensures.count),
    )

pub invariant_of-self-in_default-picked : goal.invariant_of-self-in_default-picked
invariant_of-self-in_default-picked g c =
    let inv = c.self.invariant in
    let e = c.pick-picked.ensures in
    let told = c.in_default-picked.ensures {u = tt} in (
      inv.0,
      e.below.1,
      e.above.1,
      e.seated.0,
      e.place,
      same_accounts (plain_problem g.K.Run.problem) g.K.Run.roots g.K.Run.workers _ _ inv.5 (record { number = e.number; problem = refl; opening = e.own.0 })
          (λ j. around (e.below.0 j) (e.seated.1 j) (e.above.0 j))
          (record { taken = told.came.0; closed = c.reserve.ensures.items; pushed = e.own.1; kept = told.came.1 })
          (omega (
            arith,
            ap (λ (v : Count). v.closes) c.without_cell.ensures.count,
            ap (λ (v : Count). v.closes) c.count_leaves.ensures.count,
            ap (λ (v : Count). v.closes) c.halted.ensures.count,
            c.count_leaves.ensures.none,
          ))
          (ap (λ (v : Count). v.firsts) c.without_cell.ensures.count ∙ ap (λ (v : Count). v.firsts) c.count_leaves.ensures.count ∙ ap (λ (v : Count). v.firsts) c.halted.ensures.count),
    )

pub returns-in_default-picked-clause-made : goal.returns-in_default-picked-clause-made
returns-in_default-picked-clause-made g c =
    let i = c.self.inside in
    let inv = c.self.invariant in
    let e = c.pick-picked.ensures in
    let told = c.in_default-picked.ensures {u = tt} in
    let t = c.pick-picked.new.station in
    let live = c.without_cell.ensures.count in
    without_of (plain_problem g.K.Run.problem) _ _ _ _ _ _ c.self.view_is c.without_cell.ensures.done c.without_cell.ensures.idle
    (record { taken = told.came.0; closed = c.reserve.ensures.items; pushed = e.own.1; kept = told.came.1 })
    told.came.2
    c.count_leaves.ensures.none
    (refl, omega (arith, ap (λ (v : Count). v.live.times) live, ap (λ (v : Count). v.live.times) c.count_leaves.ensures.count, ap (λ (v : Count). v.live.times) c.halted.ensures.count))
    (λ one.
    alone_settled g.K.Run.workers (worker_view t.own) (takens t.below.items) (takens t.above.items) e.seated.0.parts e.seated.0.all told.none (ap length told.came.0 ∙ inv.5.passes)
    (ap (λ (r : RefinerySeen). r.hands) c.refinery.view_is ∙ one))

pub returns-in-Closed-clause-made : goal.returns-in-Closed-clause-made
returns-in-Closed-clause-made g c =
    let i = c.self.inside in
    let inv = c.self.invariant in
    let case = plain_problem g.K.Run.problem in
    let case' = plain_problem i.looker in
    let roots = g.K.Run.roots in
    let problem = ap plain_problem inv.0 in
    let e = c.pick-picked.ensures in
    let told = c.in-Some-picked.ensures {u = tt} in
    let cell : Cell = c.in-Some-picked.cell in
    let look = c.in-Closed.ensures {u = tt} in
    let leaf = c.in-Closed.leaf in
    let kept = c.pick-picked.new.kept.items in
    leaf_of _ _ _ _ c.self.view_is (record {
      leaf = leaf;
      came = came_as _ _ _ cell leaf.cell kept look.closed told.came;
      kind = closed_here case case' cell leaf.cell leaf.kind problem look.closed look.kind;
      closed = c.push_reserved.ensures.items ∙ (λ j. c.reserve.ensures.items j ++ leaf ∷ []);
      pushed = e.own.1;
    })

pub part_halves-requires-clause-tree : goal.part_halves-requires-clause-tree
part_halves-requires-clause-tree g c =
    let told = c.in-Some-picked.ensures {u = tt} in
    let look = c.in-Halves.ensures {u = tt} in
    let case = plain_problem g.K.Run.problem in
    let cell : Cell = c.in-Some-picked.cell in
    (tree_halves case g.K.Run.roots cell c.in-Halves.first c.in-Halves.second told.cell (halved_here case (plain_problem c.self.inside.looker) cell c.in-Halves.first c.in-Halves.second (ap plain_problem c.self.invariant.0) look.halved look.kind)).1

pub part_halves-requires-clause-room : goal.part_halves-requires-clause-room
part_halves-requires-clause-room g c = room c.pick-picked.new.kept.items c.in-Some-picked.cell (c.in-Some-picked.ensures {u = tt}).narrow

pub returns-in-Closed-clause-hand : goal.returns-in-Closed-clause-hand
returns-in-Closed-clause-hand g c =
    let e = c.pick-picked.ensures in
    still_of c.args.refinery.now _ _ _ c.self.view_is c.requires (λ j. around (e.below.0 j) (e.seated.1 j) (e.above.0 j))
    (c.halted.ensures.ledger ∙ ap (λ (h : HandSeen). h.share.ledger) c.self.view_is ∙ c.requires.1.0, ap (λ (v : Count). v.opening) c.halted.ensures.count ∙ ap (λ (h : HandSeen). h.share.count.opening) c.self.view_is ∙ c.requires.1.1)
    (record { number = e.number; problem = c.look.ensures.same; opening = e.own.0 })

pub returns-in-Closed-clause-wants : goal.returns-in-Closed-clause-wants
returns-in-Closed-clause-wants g c = ap (λ (h : HandSeen). h.wants) c.self.view_is

pub returns-in-Closed-clause-cells : goal.returns-in-Closed-clause-cells
returns-in-Closed-clause-cells g c =
    inl (
      ap (λ (v : Count). v.cells) c.halted.ensures.count ∙ ap (λ (h : HandSeen). h.share.count.cells) c.self.view_is,
      inl (ap (λ (v : Count). v.leaves) c.halted.ensures.count ∙ ap (λ (h : HandSeen). h.share.count.leaves) c.self.view_is),
    )

pub returns-in-Closed-clause-memory : goal.returns-in-Closed-clause-memory
returns-in-Closed-clause-memory g c = ap (λ (v : Count). v.memory) c.halted.ensures.count ∙ ap (λ (h : HandSeen). h.share.count.memory) c.self.view_is

pub returns-in_default-picked-clause-hand : goal.returns-in_default-picked-clause-hand
returns-in_default-picked-clause-hand g c =
    let e = c.pick-picked.ensures in
    still_of c.args.refinery.now _ _ _ c.self.view_is c.requires (λ j. around (e.below.0 j) (e.seated.1 j) (e.above.0 j))
    (c.without_cell.ensures.ledger ∙ c.count_leaves.ensures.ledger ∙ c.halted.ensures.ledger ∙ ap (λ (h : HandSeen). h.share.ledger) c.self.view_is ∙ c.requires.1.0, ap (λ (v : Count). v.opening) c.without_cell.ensures.count ∙ ap (λ (v : Count). v.opening) c.count_leaves.ensures.count ∙ ap (λ (v : Count). v.opening) c.halted.ensures.count ∙ ap (λ (h : HandSeen). h.share.count.opening) c.self.view_is ∙ c.requires.1.1)
    (record { number = e.number; problem = refl; opening = e.own.0 })

pub returns-in_default-picked-clause-wants : goal.returns-in_default-picked-clause-wants
returns-in_default-picked-clause-wants g c = ap (λ (h : HandSeen). h.wants) c.self.view_is

pub returns-in_default-picked-clause-cells : goal.returns-in_default-picked-clause-cells
returns-in_default-picked-clause-cells g c =
    inl (
      ap (λ (v : Count). v.cells) c.without_cell.ensures.count ∙ ap (λ (v : Count). v.cells) c.count_leaves.ensures.count ∙ ap (λ (v : Count). v.cells) c.halted.ensures.count ∙ ap (λ (h : HandSeen). h.share.count.cells) c.self.view_is,
      inl (ap (λ (v : Count). v.leaves) c.without_cell.ensures.count ∙ ap (λ (v : Count). v.leaves) c.count_leaves.ensures.count ∙ ap (λ (v : Count). v.leaves) c.halted.ensures.count ∙ ap (λ (h : HandSeen). h.share.count.leaves) c.self.view_is),
    )

pub returns-in_default-picked-clause-memory : goal.returns-in_default-picked-clause-memory
returns-in_default-picked-clause-memory g c = ap (λ (v : Count). v.memory) c.without_cell.ensures.count ∙ ap (λ (v : Count). v.memory) c.count_leaves.ensures.count ∙ ap (λ (v : Count). v.memory) c.halted.ensures.count ∙ ap (λ (h : HandSeen). h.share.count.memory) c.self.view_is

pub returns-in_err-reserve-clause-hand : goal.returns-in_err-reserve-clause-hand
returns-in_err-reserve-clause-hand g c =
    still_of c.args.refinery.now _ _ _ c.self.view_is c.requires refl
    (c.halted.ensures.ledger ∙ ap (λ (h : HandSeen). h.share.ledger) c.self.view_is ∙ c.requires.1.0, ap (λ (v : Count). v.opening) c.halted.ensures.count ∙ ap (λ (h : HandSeen). h.share.count.opening) c.self.view_is ∙ c.requires.1.1)
    (record { number = refl; problem = refl; opening = refl })

pub returns-in_err-reserve-clause-wants : goal.returns-in_err-reserve-clause-wants
returns-in_err-reserve-clause-wants g c = ap (λ (h : HandSeen). h.wants) c.self.view_is

pub returns-in_err-reserve-clause-cells : goal.returns-in_err-reserve-clause-cells
returns-in_err-reserve-clause-cells g c =
    inl (
      ap (λ (v : Count). v.cells) c.halted.ensures.count ∙ ap (λ (h : HandSeen). h.share.count.cells) c.self.view_is,
      inl (ap (λ (v : Count). v.leaves) c.halted.ensures.count ∙ ap (λ (h : HandSeen). h.share.count.leaves) c.self.view_is),
    )

pub returns-in_err-reserve-clause-memory : goal.returns-in_err-reserve-clause-memory
returns-in_err-reserve-clause-memory g c = ap (λ (v : Count). v.memory) c.halted.ensures.count ∙ ap (λ (h : HandSeen). h.share.count.memory) c.self.view_is

pub returns-in-Closed-clause-halts : goal.returns-in-Closed-clause-halts
returns-in-Closed-clause-halts g c = λ some.
    absurd (omega (arith, (c.in_default.ensures {u = tt}).none, c.halted.ensures.set (subst (λ (h : HandSeen). 0 < h.share.count.cells + h.share.count.memory) (sym c.self.view_is) some)))

pub returns-in_default-picked-clause-halts : goal.returns-in_default-picked-clause-halts
returns-in_default-picked-clause-halts g c = λ some.
    absurd (omega (arith, (c.in_default.ensures {u = tt}).none, c.halted.ensures.set (subst (λ (h : HandSeen). 0 < h.share.count.cells + h.share.count.memory) (sym c.self.view_is) some)))

pub returns-in_err-reserve-clause-halts : goal.returns-in_err-reserve-clause-halts
returns-in_err-reserve-clause-halts g c = λ some.
    absurd (omega (arith, (c.in_default.ensures {u = tt}).none, c.halted.ensures.set (subst (λ (h : HandSeen). 0 < h.share.count.cells + h.share.count.memory) (sym c.self.view_is) some)))

pub invariant_of-self-in-Halves : goal.invariant_of-self-in-Halves
invariant_of-self-in-Halves g c =
    let i = c.self.inside in
    let inv = c.self.invariant in
    let case = plain_problem g.K.Run.problem in
    let roots = g.K.Run.roots in
    let e = c.pick-picked.ensures in
    let told = c.in-Some-picked.ensures {u = tt} in
    let cell : Cell = c.in-Some-picked.cell in
    let look = c.in-Halves.ensures {u = tt} in
    let first : Cell = c.in-Halves.first in
    let second : Cell = c.in-Halves.second in
    let halved = halved_here case (plain_problem i.looker) cell first second (ap plain_problem inv.0) look.halved look.kind in
    let kept : List Cell = c.pick-picked.new.kept.items in
    let ps = c.pick-picked.new.station in
    let same = c.part_halves.ensures.same in
    let closes = c.count_halving.ensures.closes ∙ ap (λ (v : Count). v.closes + i.uncounted) c.halted.ensures.count in
    let firsts = c.count_halving.ensures.firsts ∙ ap (λ (v : Count). v.firsts + 1) c.halted.ensures.count in
    where_parted c.part_halves.result (worker_view ps.own) (worker_view c.part_halves.new.own) kept c.part_halves.new.kept.items first second c.part_halves.ensures.parted
    (λ parted. (
      c.look.ensures.same ∙ inv.0,
      e.below.1,
      e.above.1,
      still_seated g.K.Run.workers ps.own c.part_halves.new.own same (ap (λ (v : Account). v.parts) parted.own) (ap (λ (v : Account). v.all) parted.own) e.seated.0,
      e.place,
      split_accounts case roots g.K.Run.workers _ _ inv.5 (record { number = e.number; problem = c.look.ensures.same; opening = ap (λ (v : Account). v.opening) parted.own ∙ e.own.0 })
          (λ j. around (e.below.0 j) ((same.0 ∙ e.seated.1) j) (e.above.0 j))
          (record {
            cell = cell;
            left = first;
            right = second;
            rest = kept;
            came = came_to _ _ _ _ cell kept (λ j. around (takens ps.below.items) ((ap (λ (v : Account). v.taken) parted.own) j) (takens ps.above.items)) told.came;
            halved = halved;
            kept = parted.kept;
            pushed = ap (λ (v : Account). v.pushed) parted.own ∙ (λ j. e.own.1 j ++ second ∷ []);
            closed = c.reserve.ensures.items;
          })
          (tree_keeps case roots cell inv.5.roots_are told.cell)
          (subst (All (InTree case roots)) (sym parted.kept) (keeps_first case roots kept cell first second e.tree told.cell halved))
          (subst (Narrow 26) (sym parted.kept) (narrow_half 26 kept cell first second told.narrow look.halved))
          closes
          firsts,
    ))
    (λ parted. (
      c.look.ensures.same ∙ inv.0,
      e.below.1,
      e.above.1,
      still_seated g.K.Run.workers ps.own c.part_halves.new.own same (ap (λ (v : Account). v.parts) parted.own) (ap (λ (v : Account). v.all) parted.own) e.seated.0,
      e.place,
      kept_accounts case roots g.K.Run.workers _ _ inv.5 (record { number = e.number; problem = c.look.ensures.same; opening = ap (λ (v : Account). v.opening) parted.own ∙ e.own.0 })
          (λ j. around (e.below.0 j) ((same.0 ∙ e.seated.1) j) (e.above.0 j))
          (record {
            cell = cell;
            left = first;
            right = second;
            rest = kept;
            came = came_to _ _ _ _ cell kept (λ j. around (takens ps.below.items) ((ap (λ (v : Account). v.taken) parted.own) j) (takens ps.above.items)) told.came;
            halved = halved;
            kept = parted.kept;
            pushed = ap (λ (v : Account). v.pushed) parted.own ∙ e.own.1;
            closed = c.reserve.ensures.items;
          })
          (tree_keeps case roots cell inv.5.roots_are told.cell)
          (subst (All (InTree case roots)) (sym parted.kept) (keeps_both case roots kept cell first second e.tree told.cell halved))
          (subst (Narrow 26) (sym parted.kept) (narrow_both 26 kept cell first second told.narrow look.halved))
          closes
          firsts,
    ))

pub returns-in-Halves-clause-made : goal.returns-in-Halves-clause-made
returns-in-Halves-clause-made g c =
    let i = c.self.inside in
    let inv = c.self.invariant in
    let case = plain_problem g.K.Run.problem in
    let e = c.pick-picked.ensures in
    let told = c.in-Some-picked.ensures {u = tt} in
    let cell : Cell = c.in-Some-picked.cell in
    let look = c.in-Halves.ensures {u = tt} in
    let first : Cell = c.in-Halves.first in
    let second : Cell = c.in-Halves.second in
    let halved = halved_here case (plain_problem i.looker) cell first second (ap plain_problem inv.0) look.halved look.kind in
    let kept : List Cell = c.pick-picked.new.kept.items in
    let ps = c.pick-picked.new.station in
    made_of case _ _ _ _ c.part_halves.result (worker_view ps.own) (worker_view c.part_halves.new.own) kept c.part_halves.new.kept.items first second c.self.view_is c.part_halves.ensures.parted
    (λ parted. record {
      cell = cell;
      left = first;
      right = second;
      rest = kept;
      came = came_to _ _ _ _ cell kept (λ j. around (takens ps.below.items) ((ap (λ (v : Account). v.taken) parted.own) j) (takens ps.above.items)) told.came;
      halved = halved;
      kept = parted.kept;
      pushed = ap (λ (v : Account). v.pushed) parted.own ∙ (λ j. e.own.1 j ++ second ∷ []);
      closed = c.reserve.ensures.items;
    })
    (λ parted. record {
      cell = cell;
      left = first;
      right = second;
      rest = kept;
      came = came_to _ _ _ _ cell kept (λ j. around (takens ps.below.items) ((ap (λ (v : Account). v.taken) parted.own) j) (takens ps.above.items)) told.came;
      halved = halved;
      kept = parted.kept;
      pushed = ap (λ (v : Account). v.pushed) parted.own ∙ e.own.1;
      closed = c.reserve.ensures.items;
    })

pub returns-in-Halves-clause-hand : goal.returns-in-Halves-clause-hand
returns-in-Halves-clause-hand g c =
    let e = c.pick-picked.ensures in
    let ps = c.pick-picked.new.station in
    let same = c.part_halves.ensures.same in
    let opening : (worker_view c.part_halves.new.own).opening ≡ (worker_view ps.own).opening =
    where_parted c.part_halves.result (worker_view ps.own) (worker_view c.part_halves.new.own) c.pick-picked.new.kept.items c.part_halves.new.kept.items
    c.in-Halves.first c.in-Halves.second c.part_halves.ensures.parted (λ parted. ap (λ (v : Account). v.opening) parted.own) (λ parted. ap (λ (v : Account). v.opening) parted.own) in
    still_of c.args.refinery.now _ _ _ c.self.view_is c.requires (λ j. around (e.below.0 j) ((same.0 ∙ e.seated.1) j) (e.above.0 j))
    (subst (λ (l : LedgerSeen). IsOf l c.count_halving.new.share) (ap (λ (r : RefinerySeen). r.ledger) c.refinery.view_is) c.count_halving.ensures.ledger)
    (record { number = e.number; problem = c.look.ensures.same; opening = opening ∙ e.own.0 })

pub returns-in-Halves-clause-wants : goal.returns-in-Halves-clause-wants
returns-in-Halves-clause-wants g c = ap (λ (h : HandSeen). h.wants) c.self.view_is

pub returns-in-Halves-clause-cells : goal.returns-in-Halves-clause-cells
returns-in-Halves-clause-cells g c =
    let old = c.self.inside.share.count in
    let mid = c.halted.new.share.count in
    let new = c.count_halving.new.share.count in
    let told = sets_after c.refinery.inside.limit old mid new (ap (λ (v : Count). v.cells) c.halted.ensures.count) (ap (λ (v : Count). v.leaves) c.halted.ensures.count) c.count_halving.ensures.cells in
    subst (λ (h : HandSeen). SetsCells c.args.refinery.now.limit h.share.count new) c.self.view_is (subst (λ (l : ℕ). SetsCells l old new) (ap (λ (r : RefinerySeen). r.limit) c.refinery.view_is) told)

pub returns-in-Halves-clause-memory : goal.returns-in-Halves-clause-memory
returns-in-Halves-clause-memory g c = c.count_halving.ensures.memory ∙ ap (λ (v : Count). v.memory) c.halted.ensures.count ∙ ap (λ (h : HandSeen). h.share.count.memory) c.self.view_is

pub returns-in-Halves-clause-halts : goal.returns-in-Halves-clause-halts
returns-in-Halves-clause-halts g c = λ some.
    absurd (omega (arith, (c.in_default.ensures {u = tt}).none, c.halted.ensures.set (subst (λ (h : HandSeen). 0 < h.share.count.cells + h.share.count.memory) (sym c.self.view_is) some)))

pub returns-in-Some-clause-hand : goal.returns-in-Some-clause-hand
returns-in-Some-clause-hand g c =
    let ledger = c.halted.ensures.ledger ∙ ap (λ (h : HandSeen). h.share.ledger) c.self.view_is ∙ c.requires.1.0 in
    let opening = ap (λ (v : Count). v.opening) c.halted.ensures.count ∙ ap (λ (h : HandSeen). h.share.count.opening) c.self.view_is ∙ c.requires.1.1 in
    still_of c.args.refinery.now _ _ _ c.self.view_is c.requires refl (ledger, opening)
    (record { number = refl; problem = refl; opening = refl })

pub returns-in-Some-clause-wants : goal.returns-in-Some-clause-wants
returns-in-Some-clause-wants g c = ap (λ (h : HandSeen). h.wants) c.self.view_is

pub returns-in-Some-clause-cells : goal.returns-in-Some-clause-cells
returns-in-Some-clause-cells g c =
    inl (
      ap (λ (v : Count). v.cells) c.halted.ensures.count ∙ ap (λ (h : HandSeen). h.share.count.cells) c.self.view_is,
      inl (ap (λ (v : Count). v.leaves) c.halted.ensures.count ∙ ap (λ (h : HandSeen). h.share.count.leaves) c.self.view_is),
    )

pub returns-in-Some-clause-memory : goal.returns-in-Some-clause-memory
returns-in-Some-clause-memory g c = ap (λ (v : Count). v.memory) c.halted.ensures.count ∙ ap (λ (h : HandSeen). h.share.count.memory) c.self.view_is

pub halted-requires : goal.halted-requires
halted-requires g c =
    let hand = c.self.view_is in
    let refinery = c.refinery.view_is in
    let is = c.requires.1 in (
      ap (λ (h : HandSeen). h.share.ledger) hand ∙ is.0 ∙ sym (ap (λ (r : RefinerySeen). r.ledger.id) refinery),
      ap (λ (h : HandSeen). h.share.count.opening) hand ∙ is.1 ∙ sym (ap (λ (r : RefinerySeen). r.ledger.opening) refinery),
    )

pub invariant_of-self : goal.invariant_of-self
invariant_of-self g c =
    let inv = c.self.invariant in (
      inv.0,
      inv.1,
      inv.2,
      inv.3,
      inv.4,
      same_accounts (plain_problem g.K.Run.problem) g.K.Run.roots g.K.Run.workers _ _ inv.5 (record { number = refl; problem = refl; opening = refl }) refl
          (record { taken = refl; closed = refl; pushed = refl; kept = refl })
          (omega (arith, ap (λ (v : Count). v.closes) c.halted.ensures.count))
          (ap (λ (v : Count). v.firsts) c.halted.ensures.count),
    )

pub pick-picked-requires-clause-number : goal.pick-picked-requires-clause-number
pick-picked-requires-clause-number g c = omega (arith, ap length c.as_slice.ensures.value, c.refinery.invariant.6, c.self.invariant.5.number)

pub pick-picked-requires-clause-deques : goal.pick-picked-requires-clause-deques
pick-picked-requires-clause-deques g c =
    ap (λ (h : HandSeen). h.deques) c.self.view_is ∙ c.requires.0 ∙ sym (ap (λ (r : RefinerySeen). r.deques) c.refinery.view_is)
    ∙ ap deques_of (sym c.as_slice.ensures.value)

pub pick-picked-requires-clause-place : goal.pick-picked-requires-clause-place
pick-picked-requires-clause-place g c = c.self.invariant.4

pub pick-picked-requires-clause-below : goal.pick-picked-requires-clause-below
pick-picked-requires-clause-below g c = c.self.invariant.1

pub pick-picked-requires-clause-above : goal.pick-picked-requires-clause-above
pick-picked-requires-clause-above g c = c.self.invariant.2

pub pick-picked-requires-clause-seated : goal.pick-picked-requires-clause-seated
pick-picked-requires-clause-seated g c = c.self.invariant.3

pub pick-picked-requires-clause-roots : goal.pick-picked-requires-clause-roots
pick-picked-requires-clause-roots g c = c.self.invariant.5.roots_are

pub pick-picked-requires-clause-tree : goal.pick-picked-requires-clause-tree
pick-picked-requires-clause-tree g c = c.self.invariant.5.tree

pub pick-picked-requires-clause-narrow : goal.pick-picked-requires-clause-narrow
pick-picked-requires-clause-narrow g c = c.self.invariant.5.narrow

pub part_halves-requires-clause-owner : goal.part_halves-requires-clause-owner
part_halves-requires-clause-owner g c =
    let seated = c.pick-picked.ensures.seated.0 in
    (omega (arith, seated.parts), omega (arith, seated.all, c.self.invariant.5.number))

pub returns-in-Halves-clause-enough : goal.returns-in-Halves-clause-enough
returns-in-Halves-clause-enough g c = λ kept.
    let e = c.pick-picked.ensures in
    let ps = c.pick-picked.new.station in
    let own = worker_view c.part_halves.new.own in
    leaves_enough own (takens ps.below.items) (takens ps.above.items) _
    (enough_of c.part_halves.result (worker_view ps.own) own c.pick-picked.new.kept.items c.part_halves.new.kept.items c.in-Halves.first c.in-Halves.second
    c.part_halves.ensures.parted kept)
    (length-map ps.below.items _ ∙ e.place)
