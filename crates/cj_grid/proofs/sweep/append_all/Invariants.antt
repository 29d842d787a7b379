use Rattle.std.proofs.Common.{◌≡◌, ℕ, ◌+◌, ◌*◌, ◌<◌, ◌≤◌, get_or, length}
use Rattle.cj_case.specs.Pairs.{AreBoth, ArePairsKept}
use Rattle.cj_grid.specs.declared.reach.Reach.{Reach}
use Rattle.cj_grid.specs.Among.{StillTouchAmong, AreFound}
use Rattle.cj_grid.specs.Sweeps.{IsMetBy}
use Rattle.cj_grid.proofs.sweep.append_all.Given as goal

abbrev pub invariant-loop-own : goal.invariant-loop-own
invariant-loop-own g l = record {
  touching : StillTouchAmong l.objects l.initial.pairs.items l.pairs.items;
  kept : ArePairsKept l.initial.pairs.items l.pairs.items;
  found : (k : ℕ) → k < l.own-index → (own other : Reach) → get_or l.reaches.wide.items k own ≡ own → IsMetBy l.reaches own other → AreFound l.objects (AreBoth own.object other.object) l.pairs.items;
  no_fewer : l.initial.steps ≤ l.steps;
  steps : l.steps ≤ l.initial.steps + l.own-index * (length l.reaches.wide.items + length l.reaches.others.items);
}
