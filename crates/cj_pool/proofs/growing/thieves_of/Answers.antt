use Rattle.std.proofs.Common.{ap, take_all, ◌∙◌, arith}
use Rattle.std.proofs.lemmas.Result.{err_from_is_err_and}
use Rattle.cj_pool.specs.Passes.{deques_of}
use Rattle.cj_pool.specs.Stations.{own_deques}
use Rattle.cj_pool.proofs.growing.thieves_of.Goals as goal

pub returns : goal.returns
returns g c = c.loop-station.invariant ∙ ap own_deques (take_all c.loop-station.station-index c.args.stations.now (omega arith))

pub loop-station-init : goal.loop-station-init
loop-station-init g c = ap deques_of c.new-thieves.ensures.items

pub returns-in_err-push : goal.returns-in_err-push
returns-in_err-push g c = rw (err_from_is_err_and c.from_residual-in_err-push.result c.from_residual-in_err-push.ensures.1).1 tt

pub returns-in_err-stealer : goal.returns-in_err-stealer
returns-in_err-stealer g c = rw (err_from_is_err_and c.from_residual.result c.from_residual.ensures.1).1 tt
