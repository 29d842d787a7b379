use Rattle.cj_grid.specs.Sweeps.{AreLaidOut}
use Rattle.cj_grid.proofs.reaches.lay_out.Given as goal

abbrev pub invariant-loop-axis : goal.invariant-loop-axis
invariant-loop-axis l = AreLaidOut l.objects l.best
