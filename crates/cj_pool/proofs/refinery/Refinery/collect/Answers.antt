use Rattle.std.proofs.Common.{◌≡◌, ℕ, length, take, vec_len, sym, ap, ◌∙◌, subst, arith}
use Rattle.std.specs.Prelude.{All}
use Rattle.std.specs.List.{range_with_len}
use Rattle.std.proofs.lemmas.Result.{err_from_is_err_and}
use Rattle.cj_case.specs.Problems.{plain_problem}
use Rattle.cj_pool.specs.Stations.{weigh_given, weigh_all_taken}
use Rattle.cj_pool.specs.Tree.{InTree}
use Rattle.cj_pool.proofs.EndLemmas.{run_all}
use Rattle.cj_pool.proofs.FinishLemmas.{are_open, kept_trees}
use Rattle.cj_pool.proofs.SortLemmas.{leaves_in_order}
use Rattle.cj_pool.proofs.refinery.Refinery.collect.Goals as goal

pub take_apart-requires-clause-all : goal.take_apart-requires-clause-all
take_apart-requires-clause-all g c = let run = c.requires.run in c.requires.all ∙ ap (range_with_len 0) run.hands_are

pub gather-requires-clause-tree : goal.gather-requires-clause-tree
gather-requires-clause-tree g c =
    let case = plain_problem g.K.Run.problem in
    let taken = c.in_ok-parts.ensures in
    subst (All (InTree case g.K.Run.roots)) (sym taken.kept) (kept_trees case g.K.Run.roots g.K.Run.workers c.args.hands.items taken.accounts)

pub returns-clause-all : goal.returns-clause-all
returns-clause-all g c =
    let hands = c.args.hands.items in
    let taken = c.in_ok-parts.ensures in
    let parts = c.in_ok-parts.parts in
    let cells = c.gather.new.cells.items in
    let k : vec_len parts.kept ≡ length parts.kept.items = omega (arith, parts.kept.ok.0) in
    let front = subst (λ (m : ℕ). take m cells ≡ parts.kept.items) k c.in_ok-gather.ensures.kept in
    run_all g.K.Run.problem g.K.Run.roots g.K.Run.workers c.args.self hands cells c.requires.run c.requires.sound taken.accounts c.requires.all
    (are_open hands parts.kept.items cells (λ w. weigh_given w parts.stations.items) (λ w. weigh_all_taken w parts.stations.items)
    taken.kept front c.in_ok-gather.ensures.left taken.given taken.taken) c.gather.ensures.tree

pub returns-clause-ordered : goal.returns-clause-ordered
returns-clause-ordered g c = leaves_in_order c.in_ok-leaves.leaves.items c.in_ok-leaves.ensures.ordered

pub returns-in_err-parts : goal.returns-in_err-parts
returns-in_err-parts g c =
    let p = err_from_is_err_and c.from_residual.result c.from_residual.ensures.1 in
    rw p.1 (record { all = tt; leaves = tt; ordered = tt; shares = tt; problem = tt; limit = tt; ledger = tt; opening = tt })

pub returns-in_err-gather : goal.returns-in_err-gather
returns-in_err-gather g c =
    let p = err_from_is_err_and c.from_residual-in_err-gather.result c.from_residual-in_err-gather.ensures.1 in
    rw p.1 (record { all = tt; leaves = tt; ordered = tt; shares = tt; problem = tt; limit = tt; ledger = tt; opening = tt })

pub returns-in_err-leaves : goal.returns-in_err-leaves
returns-in_err-leaves g c =
    let p = err_from_is_err_and c.from_residual-in_err-leaves.result c.from_residual-in_err-leaves.ensures.1 in
    rw p.1 (record { all = tt; leaves = tt; ordered = tt; shares = tt; problem = tt; limit = tt; ledger = tt; opening = tt })
