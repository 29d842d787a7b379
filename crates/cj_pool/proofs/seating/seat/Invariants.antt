use Rattle.std.proofs.Common.{◌≡◌, ◌-◌, ◌≤◌, length, map, take, drop, reverse, vec_len}
use Rattle.std.specs.Prelude.{All}
use Rattle.std.specs.List.{range_with_len}
use Rattle.cj_pool.specs.Hands.{HandSeen, IsUnstarted, roots_dealt}
use Rattle.cj_pool.specs.Refined.{numbers_of}
use Rattle.cj_pool.specs.Stations.{own_deques}
use Rattle.cj_pool.proofs.seating.seat.Given as goal

abbrev pub invariant-loop-station : goal.invariant-loop-station
invariant-loop-station g l = record {
  few : length l.stations.items ≤ g.K.Run.workers;
  same : length l.shares.items ≡ length l.stations.items;
  stations : l.stations.items ≡ take (length l.stations.items) l.initial.stations.items;
  shares : l.shares.items ≡ take (length l.shares.items) l.initial.shares.items;
  numbers : numbers_of (reverse l.hands.items) ≡ range_with_len (length l.stations.items) (g.K.Run.workers - length l.stations.items);
  deques : All (λ (h : HandSeen). h.deques ≡ own_deques l.initial.stations.items) (reverse l.hands.items);
  unstarted : All IsUnstarted (reverse l.hands.items);
  opening : All (λ (h : HandSeen). h.opening ≡ roots_dealt g.K.Run.roots g.K.Run.workers h.number) (reverse l.hands.items);
  seated : map (λ (h : HandSeen). h.share) (reverse l.hands.items) ≡ drop (length l.stations.items) l.initial.shares.items;
}

abbrev pub decreases-loop-station : goal.decreases-loop-station
decreases-loop-station g l = vec_len l.stations
