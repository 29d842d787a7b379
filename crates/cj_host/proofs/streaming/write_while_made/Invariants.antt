use Rattle.cj_host.proofs.streaming.write_while_made.Given as goal

abbrev pub decreases-loop-ready : goal.decreases-loop-ready
decreases-loop-ready g l = g.M.PartSource.left l.source
