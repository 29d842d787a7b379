use Rattle.std.proofs.Common.{◌≡◌, take}
use Rattle.crossbeam_deque.specs.Handles.{worker_view}
use Rattle.cj_pool.specs.Hands.{roots_dealt}
use Rattle.cj_pool.specs.Stations.{IsLike}
use Rattle.cj_pool.proofs.dealing.receive_own.Given as goal

abbrev pub invariant-loop-root : goal.invariant-loop-root
invariant-loop-root g l = record {
  like : IsLike l.fn.station l.station;
  dealt : (worker_view l.station.own).opening ≡ roots_dealt (take l.root-index l.roots) l.count l.fn.station.number;
}
