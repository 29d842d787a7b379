use Rattle.std.proofs.Common.{◌≡◌, ◌++◌, Ok, length, map}
use Rattle.std.specs.Vec.Iter.{into_iter_items, into_iter_len}
use Rattle.cj_pool.proofs.dealing.all_served.Given as goal

-- the stations and what is left make up the whole
abbrev pub invariant-loop-station : goal.invariant-loop-station
invariant-loop-station g l = record {
  left : into_iter_len l.station-iterator ≡ length (into_iter_items l.station-iterator);
  whole : map Ok l.stations.items ++ into_iter_items l.station-iterator ≡ l.fn.served.items;
}
