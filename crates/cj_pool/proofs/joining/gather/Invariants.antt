use Rattle.std.proofs.Common.{◌≡◌, ◌+◌, ◌≤◌, ℕ, length, take, vec_len}
use Rattle.std.specs.Prelude.{All}
use Rattle.cj_case.specs.declared.cell.Cell.{Cell}
use Rattle.cj_case.specs.Problems.{plain_problem}
use Rattle.cj_pool.specs.Stations.{AreStations, weigh_all_taken, weigh_given}
use Rattle.cj_pool.specs.Tree.{InTree}
use Rattle.cj_pool.specs.Weights.{weigh}
use Rattle.cj_pool.proofs.joining.gather.Given as goal

abbrev pub invariant-loop-last : goal.invariant-loop-last
invariant-loop-last g l = record {
  stations : AreStations g.K.Run.workers l.stations.items;
  few : length l.stations.items ≤ g.K.Run.workers;
  kept : take (length l.initial.cells.items) l.cells.items ≡ l.initial.cells.items;
  tree : All (InTree (plain_problem g.K.Run.problem) g.K.Run.roots) l.cells.items;
  left : (w : Cell → ℕ) → weigh w l.initial.cells.items + weigh_given w l.initial.stations.items + weigh_all_taken w l.stations.items
      ≡ weigh_all_taken w l.initial.stations.items + weigh_given w l.stations.items + weigh w l.cells.items;
}

abbrev pub decreases-loop-last : goal.decreases-loop-last
decreases-loop-last g l = vec_len l.stations
