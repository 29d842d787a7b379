use Rattle.cj_pool.proofs.StationLemmas.{AreGrown}
use Rattle.cj_pool.proofs.growing.swap_with_each.Given as goal

abbrev pub invariant-loop-earlier : goal.invariant-loop-earlier
invariant-loop-earlier g l = AreGrown g.K.Run.workers l.earlier-index l.initial.stations l.stations l.next
