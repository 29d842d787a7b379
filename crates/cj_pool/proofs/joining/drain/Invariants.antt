use Rattle.std.proofs.Common.{◌≡◌, ◌+◌, ◌<◌, length, take}
use Rattle.std.specs.Prelude.{All}
use Rattle.crossbeam_deque.specs.Handles.{worker_flavor, worker_view}
use Rattle.cj_case.specs.Problems.{plain_problem}
use Rattle.cj_pool.specs.Tree.{InTree}
use Rattle.cj_pool.proofs.PartLemmas.{Drains}
use Rattle.cj_pool.proofs.joining.drain.Given as goal

abbrev pub invariant-loop : goal.invariant-loop
invariant-loop g l = record {
  flavor : worker_flavor l.own ≡ 0;
  part : 0 < (worker_view l.own).parts;
  drains : Drains (worker_view l.initial.own) (worker_view l.own) l.initial.cells.items l.cells.items;
  many : length l.cells.items ≡ length l.initial.cells.items + l.counter;
  kept : take (length l.initial.cells.items) l.cells.items ≡ l.initial.cells.items;
  tree : All (InTree (plain_problem g.K.Run.problem) g.K.Run.roots) l.cells.items;
}
