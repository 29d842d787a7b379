use Rattle.cj_hermite.specs.Ready.{controls_ready}
use Rattle.cj_hermite.proofs.PlaceLemmas.{polar_holds}
use Rattle.cj_hermite.proofs.places.coordinate.Goals as goal

pub returns-clause-holds : goal.returns-clause-holds
returns-clause-holds c =
    let at = c.args.at.now in
    polar_holds (controls_ready c.args.axis.now at.of) at.of at.at c.polar.result at.some (record { lower = c.polar.ensures.lower; upper = c.polar.ensures.upper })
