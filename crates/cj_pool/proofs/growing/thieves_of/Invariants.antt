use Rattle.std.proofs.Common.{◌≡◌, take}
use Rattle.cj_pool.specs.Passes.{deques_of}
use Rattle.cj_pool.specs.Stations.{own_deques}
use Rattle.cj_pool.proofs.growing.thieves_of.Given as goal

abbrev pub invariant-loop-station : goal.invariant-loop-station
invariant-loop-station g l = deques_of l.thieves.items ≡ own_deques (take l.station-index l.stations)
