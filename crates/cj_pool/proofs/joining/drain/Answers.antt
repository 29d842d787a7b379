use Rattle.std.proofs.Common.{◌≡◌, ◌+◌, ℕ, take, vec_len, List, [], ◌∷◌, ◌++◌, length, rules, sym, ap, ◌∙◌, subst, arith, length-append}
use Rattle.std.proofs.lemmas.List.Elements.{All-push, All-same}
use Rattle.crossbeam_deque.specs.Handles.{worker_view}
use Rattle.cj_case.specs.declared.cell.Cell.{Cell}
use Rattle.cj_case.specs.Problems.{plain_problem}
use Rattle.cj_pool.specs.declared.account.Account.{Account}
use Rattle.cj_pool.specs.Accounts.{with_taken}
use Rattle.cj_pool.specs.Tree.{InTree}
use Rattle.cj_pool.proofs.PartLemmas.{Drains, drained_more, drained_late, kept_push}
use Rattle.std.proofs.lemmas.Result.{err_from_is_err_and}
use Rattle.cj_pool.proofs.joining.drain.Goals as goal

pub returns-in_err-push-clause-tree : goal.returns-in_err-push-clause-tree
returns-in_err-push-clause-tree g c =
    All-same (InTree (plain_problem g.K.Run.problem) g.K.Run.roots) c.push.new.self.items c.loop.cells.items c.in_err-push.ensures.items
    c.loop.invariant.tree

pub loop-preserved : goal.loop-preserved
loop-preserved g c =
    let i = c.loop.invariant in
    let cell : Cell = c.into_cell.result in
    let same : cell ≡ c.in-Some.work = c.into_cell.ensures.cell in
    let rule : worker_view c.pop.new.own ≡ with_taken (worker_view c.loop.own) (cell ∷ []) =
    (c.in-Some.ensures {u = tt}).rule ∙ ap (λ (x : Cell). with_taken (worker_view c.loop.own) (x ∷ [])) (sym same) in
    let items : c.push.new.self.items ≡ c.loop.cells.items ++ cell ∷ [] = c.in_ok-push.ensures.items in
    let start = c.args.cells.now.items in
    record {
      flavor = c.pop.ensures.same.1 ∙ i.flavor;
      part = (let p = ap (λ (v : Account). v.parts) rule in omega (arith, p, i.part));
      drains = drained_more (worker_view c.queue_len-end.new.own) (worker_view c.loop.own) (worker_view c.pop.new.own) start c.loop.cells.items
          c.push.new.self.items cell i.drains rule items;
      many = ap length items ∙ omega (arith, i.many, length-append c.loop.cells.items (cell ∷ []));
      kept = rw items (kept_push start c.loop.cells.items cell i.kept (omega (arith, i.many)));
      tree = All-same (InTree (plain_problem g.K.Run.problem) g.K.Run.roots) c.push.new.self.items (c.loop.cells.items ++ cell ∷ []) items
          (All-push (InTree (plain_problem g.K.Run.problem) g.K.Run.roots) c.loop.cells.items cell i.tree c.into_cell.ensures.tree);
    }

pub returns-clause-left : goal.returns-clause-left
returns-clause-left g c =
    let i = c.loop.invariant in
    let view = c.queue_len-end.ensures.view in
    let cells = c.args.cells.now.items in
    let items : List Cell = c.queue_len-end.ensures.rule.0 in
    let many : length c.loop.cells.items ≡ length cells + length items = search
    (rules, i.many, c.queue_len-end.ensures.rule.1, c.loop.auto.counter-end, c.loop-test.false) in
    drained_late (worker_view c.args.own.now) (worker_view c.loop.own) cells c.loop.cells.items items c.queue_len.ensures.rule.0
    (subst (λ (v : Account). Drains v (worker_view c.loop.own) cells c.loop.cells.items) view i.drains) c.requires.parts.1
    c.queue_len-end.ensures.rule.2 c.queue_len.ensures.rule.2 many

pub returns-clause-kept : goal.returns-clause-kept
returns-clause-kept g c =
    let n : length c.args.cells.now.items ≡ vec_len c.args.cells.now = omega (arith, c.args.cells.now.ok.0) in
    subst (λ (k : ℕ). take k c.loop.cells.items ≡ c.args.cells.now.items) n c.loop.invariant.kept

pub returns-in_default-clause-kept : goal.returns-in_default-clause-kept
returns-in_default-clause-kept g c =
    let n : length c.args.cells.now.items ≡ vec_len c.args.cells.now = omega (arith, c.args.cells.now.ok.0) in
    subst (λ (k : ℕ). take k c.loop.cells.items ≡ c.args.cells.now.items) n c.loop.invariant.kept

pub returns-clause-tree : goal.returns-clause-tree
returns-clause-tree g c = c.loop.invariant.tree

pub returns-in_default-clause-tree : goal.returns-in_default-clause-tree
returns-in_default-clause-tree g c = c.loop.invariant.tree

pub returns-in_err-push-clause-left : goal.returns-in_err-push-clause-left
returns-in_err-push-clause-left g c = rw (err_from_is_err_and c.from_residual.result c.from_residual.ensures.1).1 tt
