use Rattle.std.proofs.Common.{◌≡◌, length}
use Rattle.std.specs.Prelude.{All}
use Rattle.cj_pool.specs.Stations.{AreStations, IsUnused, IsUnopened}
use Rattle.cj_pool.proofs.growing.new_stations.Given as goal

abbrev pub invariant-loop-number : goal.invariant-loop-number
invariant-loop-number g l = record {
  len : length l.stations.items ≡ l.number;
  stations : AreStations g.K.Run.workers l.stations.items;
  unused : All IsUnused l.stations.items;
  unopened : All IsUnopened l.stations.items;
}
